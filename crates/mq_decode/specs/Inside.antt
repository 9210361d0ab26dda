-- Definitions that only the proofs of this crate need: no public contract cites them.
pub mod Fields
pub mod Front
pub mod Gives
pub mod Grammar
pub mod Lent
pub mod Reader
