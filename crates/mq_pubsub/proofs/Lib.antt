pub mod Given
pub mod Resumed
pub mod Shown
