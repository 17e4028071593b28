pub mod Topping
pub mod Turning
