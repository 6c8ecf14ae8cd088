pub mod Turns
pub mod Rooms
pub mod Directions
