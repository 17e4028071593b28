pub mod Extending
pub mod Answering
pub mod Longer
pub mod Steps
