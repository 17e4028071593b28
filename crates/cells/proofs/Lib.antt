pub mod Answering
pub mod History
