pub mod Numbering
pub mod Nodes
