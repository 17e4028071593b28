pub mod Count
pub mod Runs
pub mod Lives
pub mod Fill
