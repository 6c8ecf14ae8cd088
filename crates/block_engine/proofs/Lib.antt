pub mod Choosing
pub mod Syncing
pub mod Unmapping
pub mod Deciding
pub mod Told
pub mod Settling
pub mod Known
