pub mod Playing
pub mod Written
