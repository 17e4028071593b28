pub mod Walking
pub mod Rowing
