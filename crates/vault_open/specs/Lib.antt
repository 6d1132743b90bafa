pub mod Devices
pub mod Faults
pub mod Causes
pub mod Folding
pub mod Preparing
pub mod Inits
pub mod Stores
pub mod Disks
