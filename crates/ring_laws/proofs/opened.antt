pub mod Opened
pub mod AttachedOpening
