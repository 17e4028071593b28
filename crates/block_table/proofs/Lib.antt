pub mod Keeping
pub mod Blocks
pub mod Appending
