-- Lemmas of the proofs.
pub mod Lending
