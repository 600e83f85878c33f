-- What proofs of callers cite.
pub mod Lookups
pub mod LastLookups
pub mod MergeLookups
pub mod HandedOver
pub mod Tallies
pub mod Every
