pub mod Citing
pub mod Telling
