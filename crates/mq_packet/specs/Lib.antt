pub mod Codes
pub mod Encoding
pub mod Identifier
pub mod Lines
pub mod Prelude
pub mod Publication
pub mod Values
pub mod Writing
