pub mod Installing
pub mod InstallingDays
