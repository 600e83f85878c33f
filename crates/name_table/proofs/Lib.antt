pub mod EachRead
pub mod OneReading
pub mod PartLemmas
pub mod ReadAgain
pub mod Remains
pub mod Writing
