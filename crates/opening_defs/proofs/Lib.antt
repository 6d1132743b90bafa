pub mod Resyncs
pub mod Readings
pub mod SetUps
pub mod Opened
