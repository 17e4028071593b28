-- Laws that belong to no one function.
pub mod Ranking
pub mod Listing
pub mod Treeing
