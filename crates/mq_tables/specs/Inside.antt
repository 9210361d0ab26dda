-- Definitions that only the proofs of this crate need: no public contract cites them.
pub mod Alarms
pub mod Connections
pub mod Late
pub mod Subscriptions
