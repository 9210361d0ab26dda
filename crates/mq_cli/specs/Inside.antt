-- Definitions that only the proofs of this crate need: no public contract cites them.
pub mod CommandLine
pub mod Count
pub mod Grammar
pub mod Random
pub mod Status
pub mod Stops
