-- Laws that belong to no one function.
pub mod Readers
pub mod RowReads
pub mod RowSays
pub mod RowBytes
pub mod BlockCounts
pub mod Forest
pub mod NodeCounts
pub mod Scanning
pub mod FileParts
