pub mod Blocks
pub mod RowRead
pub mod Appended
pub mod Rows
