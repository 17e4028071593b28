pub mod Many
pub mod Law
