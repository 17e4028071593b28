pub mod Notes
pub mod Listing
