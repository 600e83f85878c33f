-- Lemmas of the proofs.
pub mod Sifted
pub mod Asked
pub mod Runs
pub mod ReadLookups
