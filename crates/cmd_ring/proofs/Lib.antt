pub mod Rest
pub mod Laid
pub mod Follows
