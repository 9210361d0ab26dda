pub mod Fault
pub mod Prelude
pub mod Printing
pub mod Replay
