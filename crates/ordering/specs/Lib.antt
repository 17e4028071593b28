pub mod Order
pub mod Apart
