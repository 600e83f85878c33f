-- The definitions that the contracts cite. Those of a run are in `Told` of the crate `names_core`.
pub mod FailsAt
pub mod Laws
pub mod Rewriting
