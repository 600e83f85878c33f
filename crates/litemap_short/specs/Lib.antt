-- The definitions that the contracts cite.
pub mod Storage
pub mod Lends
