-- Laws that belong to no one function.
pub mod Standing
mod Recording
mod Listing
