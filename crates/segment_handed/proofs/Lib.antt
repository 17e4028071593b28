pub mod Rows
pub mod Owing
pub mod Holding
pub mod Halves
pub mod Showing
pub mod Seeing
