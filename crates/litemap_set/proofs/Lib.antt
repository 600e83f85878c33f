-- Lemmas of the proofs.
pub mod Keys
pub mod Walking
