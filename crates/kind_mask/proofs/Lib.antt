pub mod Masks
pub mod Masking
