mod Words
pub mod Lines
pub mod Counts
pub mod Stores
pub mod Blocks
pub mod Sweeps
pub mod Leaving
pub mod Ends
pub mod Telling
pub mod Begins
