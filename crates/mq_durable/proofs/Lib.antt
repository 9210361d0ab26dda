pub mod Entries
mod Crashes
pub mod Runs
mod Frames
pub mod Names
pub mod Recoveries
mod Reports
mod Kept
mod CallLaws
mod Commits
mod Growth
mod Determined
