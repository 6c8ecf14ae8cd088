pub mod Tallies
pub mod Loading
