pub mod Answers
pub mod Long
