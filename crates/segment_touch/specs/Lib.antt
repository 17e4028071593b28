pub mod Sorting
pub mod Placing
