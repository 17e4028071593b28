pub mod Pairs
pub mod Taking
pub mod Places
pub mod Labels
