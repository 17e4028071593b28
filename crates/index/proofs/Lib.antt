pub mod Opens
pub mod Recording
pub mod Finishing
pub mod Answering
