-- Laws that belong to no one function.
pub mod Planning
pub mod Agreeing
pub mod Answering
