pub mod Drawing
pub mod Rows
pub mod Ways
