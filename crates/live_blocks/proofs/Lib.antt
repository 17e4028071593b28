pub mod Seeing
pub mod Living
