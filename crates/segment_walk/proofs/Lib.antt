pub mod Halving
pub mod Rowing
pub mod Windows
pub mod Agreeing
