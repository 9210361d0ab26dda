pub mod Contents
pub mod Folders
pub mod Replacing
pub mod Switching
pub mod Times
