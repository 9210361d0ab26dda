pub mod Fault
pub mod Image
pub mod Inside
pub mod Prelude
pub mod Records
pub mod Rows
pub mod Texts
