pub mod Ticks
pub mod Entries
pub mod Nodes
pub mod Noting
pub mod Room
