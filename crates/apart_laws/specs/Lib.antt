pub mod Ticks
pub mod Ruled
pub mod Cover
pub mod Slots
pub mod Parted
pub mod RightFirst
pub mod Law
