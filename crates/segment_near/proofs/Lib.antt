pub mod Neighbouring
pub mod Agreeing
