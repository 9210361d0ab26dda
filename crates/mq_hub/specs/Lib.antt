pub mod Deadline
pub mod Gauges
pub mod Inside
pub mod Prelude
pub mod Run
