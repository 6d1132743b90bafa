mod Words
pub mod Multipliers
pub mod Steps
pub mod Coefficients
pub mod Rows
