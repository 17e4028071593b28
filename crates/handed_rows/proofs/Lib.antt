pub mod Numbered
pub mod Along
pub mod Tallying
pub mod Handing
