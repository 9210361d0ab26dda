pub mod Laws
pub mod Parts
pub mod Prelude
pub mod Schedule
pub mod Writing
pub mod Inside
