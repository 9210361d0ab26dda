pub mod Codes
pub mod Cuts
pub mod Laying
pub mod Octets
pub mod Reading
pub mod Unique
pub mod Values
pub mod Written
