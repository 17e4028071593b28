pub mod Pairs
pub mod Totals
pub mod Fractions
