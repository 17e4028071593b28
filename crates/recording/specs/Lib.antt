pub mod Recorded
pub mod Calls
