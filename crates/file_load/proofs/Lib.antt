-- Laws that belong to no one function.
pub mod OneKind
pub mod Holding
pub mod Rows
pub mod Trees
pub mod Standing
pub mod Judging
pub mod Building
pub mod Faults
pub mod Loading
