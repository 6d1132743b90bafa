mod Words
pub mod Steps
pub mod Turns
pub mod Sweeps
pub mod Failures
pub mod Instructions
pub mod Written
pub mod Counts
pub mod GetRun
