pub mod Relations
pub mod Exported
pub mod ExportedTested
pub mod Meanings
pub mod Promises
