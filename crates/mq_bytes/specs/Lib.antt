pub mod Arguments
pub mod Buffers
pub mod Checks
pub mod Inside
pub mod Places
pub mod Prelude
