pub mod Fields
pub mod Naming
pub mod Counting
pub mod Limits
