pub mod InMemory
pub mod Ranges
