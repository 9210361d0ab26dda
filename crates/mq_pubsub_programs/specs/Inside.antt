-- Definitions that only the proofs of this crate need: no public contract cites them.
pub mod Delivering
pub mod Feeding
pub mod Polling
pub mod Status
