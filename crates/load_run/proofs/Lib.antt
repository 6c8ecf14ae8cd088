pub mod Tallying
pub mod Summing
pub mod Loads
pub mod Makeable
