pub mod Clear
pub mod Above
