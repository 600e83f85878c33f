-- Lemmas of the proofs.
pub mod Columns
