mod Words
pub mod Sweeps
pub mod Epochs
pub mod Moved
pub mod Told
pub mod Stories
pub mod Running
pub mod Chains
