-- Definitions that only the proofs of this crate need: no public contract cites them.
pub mod Recorded
pub mod Recovering
pub mod State
