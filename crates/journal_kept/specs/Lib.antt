pub mod Asked
pub mod Answering
pub mod Fronts
pub mod Keeping
pub mod Counted
pub mod Receipts
