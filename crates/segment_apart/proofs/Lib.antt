pub mod Creation
pub mod Deciding
pub mod Agreeing
