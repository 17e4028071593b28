-- Laws that belong to no one function.
pub mod Storing
pub mod Places
pub mod FillingBlocks
pub mod FillingEntries
pub mod Ruling
pub mod FillingTrees
pub mod FillingNodes
