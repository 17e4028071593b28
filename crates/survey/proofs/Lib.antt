pub mod Holding
pub mod Changing
pub mod Weighing
pub mod Matching
pub mod Surveying
pub mod Telling
