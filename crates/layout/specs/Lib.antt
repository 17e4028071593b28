pub mod Tables
pub mod Encodes
pub mod Formed
pub mod Reads
pub mod Relations
pub mod Rows
pub mod Files
pub mod Law
