pub mod Configuration
pub mod Continued
pub mod Faults
pub mod Prelude
pub mod Restoring
pub mod SnapshotFile
pub mod Inside
