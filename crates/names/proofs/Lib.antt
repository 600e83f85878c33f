-- Lemmas of the crate.
pub mod Rises
pub mod Trees
