pub mod AtIndex
pub mod Halving
pub mod Prefixing
pub mod Tables
pub mod Writing
