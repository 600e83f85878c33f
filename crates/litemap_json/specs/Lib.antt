-- The definitions that the contracts cite. `Item` and `Json` are the pages to read first.
pub mod Item
pub mod Json
pub mod Reading
pub mod Laws
pub mod Digits
pub mod Kinds
pub mod OneTree
pub mod Parse
pub mod Taken
pub mod Widths
pub mod Written
