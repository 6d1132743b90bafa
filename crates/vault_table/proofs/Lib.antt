mod Words
pub mod Fold
pub mod Orders
pub mod Places
pub mod Taken
pub mod KeptNames
