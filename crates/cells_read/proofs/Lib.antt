pub mod Showing
pub mod Running
pub mod Reading
