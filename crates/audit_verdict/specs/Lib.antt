pub mod Rounds
pub mod Example
