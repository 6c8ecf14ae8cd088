pub mod AreaStart
pub mod Places
pub mod Lends
pub mod Copies
pub mod Returns
