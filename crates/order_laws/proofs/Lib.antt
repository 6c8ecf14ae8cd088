pub mod Chosen
pub mod InOrder
pub mod Refused
pub mod Directed
