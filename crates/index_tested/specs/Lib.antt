pub mod Kept
pub mod Tested
pub mod Law
