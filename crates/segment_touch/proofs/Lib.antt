pub mod Sorting
pub mod Merging
pub mod Numbering
pub mod Searching
pub mod Agreeing
