pub mod Numbers
pub mod Digits
pub mod Pieces
pub mod Rising
pub mod Runs
pub mod Limits
