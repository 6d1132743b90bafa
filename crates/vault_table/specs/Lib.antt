pub mod Orders
pub mod Values
pub mod Parts
pub mod Causes
pub mod Examples
pub mod Starts
