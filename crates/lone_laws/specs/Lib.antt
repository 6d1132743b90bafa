pub mod Made
pub mod Walked
