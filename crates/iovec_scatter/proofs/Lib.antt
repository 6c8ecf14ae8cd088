pub mod Steps
pub mod Covering
