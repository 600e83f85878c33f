-- Lemmas of the crate.
pub mod Bytes
pub mod Pairs
pub mod Cuts
pub mod Writes
pub mod Tolds
