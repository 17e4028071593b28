pub mod Trial
pub mod Apart
pub mod Finish
pub mod Answers
