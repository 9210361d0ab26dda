pub mod Delivering
pub mod Feeding
pub mod Following
pub mod Inside
pub mod Prelude
pub mod Status
