pub mod Occupation
