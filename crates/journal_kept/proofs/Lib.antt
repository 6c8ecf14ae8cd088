pub mod Lists
pub mod Notes
pub mod Keep
pub mod Tell
pub mod Finish
pub mod Receiving
pub mod Scripts
pub mod Crossing
