-- The definitions that the contracts cite.
pub mod Sets
pub mod Walks
