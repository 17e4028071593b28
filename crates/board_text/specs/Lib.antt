-- The definitions that the contracts cite.
pub mod Line
pub mod Wrote
