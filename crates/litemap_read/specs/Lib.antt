-- The definitions that the contracts cite. Those of the sorted list are in `Pairs` of the crate `litemap_store`.
pub mod Source
pub mod Results
pub mod ReadFault
pub mod Laws
pub mod Steps
