pub mod Piece
pub mod Rep
pub mod Calls
pub mod Shown
pub mod Test
