pub mod Birth
pub mod Apart
