pub mod Clearing
pub mod Rising
