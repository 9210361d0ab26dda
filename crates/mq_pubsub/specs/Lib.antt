pub mod Giving
pub mod Prelude
pub mod Printing
pub mod Retrying
pub mod Setups
pub mod Subscribing
