pub mod Configured
pub mod Opening
pub mod Stored
