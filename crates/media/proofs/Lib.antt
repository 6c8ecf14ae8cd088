pub mod InMemory
pub mod Opening
