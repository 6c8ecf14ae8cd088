pub mod Lends
pub mod Growing
pub mod Ends
