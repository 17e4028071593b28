pub mod Longer
pub mod Steps
