-- Laws that belong to no one function.
mod Numbers
mod Records
pub mod Walking
mod Checking
pub mod Meeting
