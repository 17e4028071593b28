pub mod Info
pub mod Answers
