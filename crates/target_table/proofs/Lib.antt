pub mod Ordered
pub mod Places
pub mod Added
pub mod TakenOut
pub mod Expiring
pub mod PlacesAdded
