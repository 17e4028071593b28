pub mod Numbered
pub mod Handed
