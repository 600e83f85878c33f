-- What a search finds, and where it splits a list.
pub mod Halving
pub mod Shapes
pub mod Splitting
