-- Lemmas of the proofs.
pub mod Parts
