pub mod Keeping
pub mod Recording
pub mod Reading
pub mod Closing
