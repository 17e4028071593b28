pub mod Bytes
pub mod Blocks
