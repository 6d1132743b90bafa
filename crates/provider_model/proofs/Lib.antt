pub mod Places
pub mod Fetches
pub mod Lies
