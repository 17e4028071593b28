pub mod DayLists
pub mod Writing
