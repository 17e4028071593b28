pub mod Recorded
pub mod Clearing
pub mod Placing
pub mod Updating
pub mod Extracting
pub mod Telling
