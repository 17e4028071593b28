-- Laws that belong to no one function.
pub mod Reading
pub mod Moving
pub mod Writing
