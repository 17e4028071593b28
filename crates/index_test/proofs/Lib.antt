pub mod BoardTested
pub mod Ledgers
pub mod Tested
pub mod Told
pub mod Deciding
pub mod Numbers
