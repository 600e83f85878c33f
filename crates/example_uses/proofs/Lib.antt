-- Lemmas of the proofs.
pub mod Vectors
