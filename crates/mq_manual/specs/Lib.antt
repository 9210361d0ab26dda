pub mod Completion
pub mod Manual
pub mod Roff
