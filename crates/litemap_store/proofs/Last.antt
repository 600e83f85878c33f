-- The last pair of each key.
pub mod Pairs
pub mod KeepLast
pub mod Sifting
pub mod OneByOne
pub mod Taken
pub mod FirstGiven
