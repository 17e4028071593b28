pub mod Closed
pub mod Alone
