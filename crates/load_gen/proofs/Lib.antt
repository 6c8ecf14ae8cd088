pub mod Remainders
pub mod Following
pub mod Sendable
pub mod Limits
