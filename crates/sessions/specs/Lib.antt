pub mod Law
pub mod States
pub mod Growth
