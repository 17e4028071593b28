pub mod Refusing
pub mod Judging
pub mod Storing
pub mod Reading
pub mod Updating
pub mod Recording
