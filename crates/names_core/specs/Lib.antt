-- The definitions that the contracts cite. `Told` is the page to read first.
pub mod Told
pub mod Run
pub mod Line
pub mod Reply
pub mod Watched
pub mod Writes
pub mod ReadsUntil
