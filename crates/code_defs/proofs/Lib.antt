mod Words
pub mod Values
pub mod Points
pub mod Lagrange
pub mod Profiles
pub mod Generators
pub mod Codewords
pub mod Worked
pub mod Symbols
