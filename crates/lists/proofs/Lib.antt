pub mod Numbers
pub mod Lists
pub mod Maps
pub mod Stores
pub mod Counting
pub mod Parts
pub mod Puts
