pub mod Past
pub mod Parts
pub mod Places
pub mod Masks
mod Zeros
