pub mod Test
pub mod Parts
pub mod Total
