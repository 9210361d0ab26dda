pub mod FolderHistory
pub mod Folders
pub mod History
pub mod Named
pub mod Prelude
pub mod Times
pub mod Inside
