pub mod Theorem
pub mod Cells
pub mod Touching
