pub mod Rounds
pub mod Deliveries
pub mod Lines
pub mod Helps
