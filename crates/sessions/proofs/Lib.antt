pub mod Sessions
pub mod States
pub mod Growth
