pub mod Reaching
pub mod Starting
pub mod Listing
pub mod Nearing
