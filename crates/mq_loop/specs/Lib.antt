pub mod Accounts
pub mod Brokers
pub mod Calls
pub mod Inside
pub mod Places
pub mod Prelude
pub mod Rounds
pub mod Sockets
