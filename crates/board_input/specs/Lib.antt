-- The definitions that the contracts cite.
pub mod Input
pub mod Walk
