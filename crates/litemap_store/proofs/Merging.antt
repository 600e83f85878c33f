-- Merges of two lists.
pub mod Merges
pub mod Joins
pub mod Steps
pub mod Down
pub mod Walking
