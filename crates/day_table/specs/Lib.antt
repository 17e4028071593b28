pub mod DayLists
