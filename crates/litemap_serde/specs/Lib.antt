pub mod Read
pub mod Written
