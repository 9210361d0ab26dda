-- Definitions that only the proofs of this crate need: no public contract cites them.
pub mod Folders
pub mod History
pub mod Named
