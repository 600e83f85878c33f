-- The definitions that the contracts cite.
pub mod Evens
pub mod Languages
pub mod Levels
