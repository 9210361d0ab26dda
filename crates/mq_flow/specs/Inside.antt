-- Definitions that only the proofs of this crate need: no public contract cites them.
pub mod Held
pub mod Loading
pub mod Saved
