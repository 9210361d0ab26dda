pub mod Appending
pub mod Leading
