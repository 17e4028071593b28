pub mod Giving
pub mod Finding
