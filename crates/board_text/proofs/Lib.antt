-- Laws that belong to no one function.
mod Digits
pub mod Lines
