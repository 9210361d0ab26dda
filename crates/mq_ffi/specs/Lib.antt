pub mod Boxed
pub mod Clients
pub mod Codes
pub mod Exports
pub mod Prelude
pub mod Inside
