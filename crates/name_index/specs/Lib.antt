-- The definitions that the contracts cite. `Names` is the page to read first.
pub mod Names
pub mod Tables
pub mod Index
pub mod Steps
pub use Names.*
pub use Tables.*
pub use Index.*
pub use Steps.*
