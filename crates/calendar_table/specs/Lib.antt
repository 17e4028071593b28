pub mod Calendars
