pub mod Rows
pub mod Taking
pub mod Opening
