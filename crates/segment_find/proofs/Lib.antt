pub mod Searching
pub mod Noting
pub mod Windowing
pub mod Extending
pub mod Finding
pub mod Agreeing
