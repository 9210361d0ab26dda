pub mod Sorting
pub mod Names
pub mod Joining
pub mod Unique
pub mod Lines
pub mod Collected
pub mod Telling
pub mod Runs
