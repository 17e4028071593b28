pub mod Answers
pub mod Law
