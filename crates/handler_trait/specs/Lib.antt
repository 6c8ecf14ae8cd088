pub mod OverStore
pub mod Freed
