pub mod Words
pub mod Devices
pub mod Lone
pub mod GivenUp
pub mod Packed
