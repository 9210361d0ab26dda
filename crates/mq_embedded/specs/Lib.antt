pub mod Arguments
pub mod Calls
pub mod Faults
pub mod Prelude
pub mod Queue
pub mod Starts
