pub mod Repeating
pub mod OverStore
