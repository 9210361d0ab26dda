pub mod Calls
pub mod Places
pub mod Rounds
pub mod Turns
