pub mod Counting
pub mod Answering
