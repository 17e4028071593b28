pub mod Operations
pub mod Threes
