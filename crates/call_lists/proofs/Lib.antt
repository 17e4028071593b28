pub mod Reading
pub mod Threes
