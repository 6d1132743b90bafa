pub mod Epochs
pub mod Told
pub mod Sweeping
