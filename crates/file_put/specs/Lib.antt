pub mod Living
pub mod Parts
