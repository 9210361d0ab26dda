-- Definitions that only the proofs of this crate need: no public contract cites them.
pub mod Found
pub mod Matching
pub mod NodeView
pub mod Rows
pub mod Tree
