pub mod Polynomials
pub mod Points
pub mod Sums
pub mod Profiles
pub mod ServerCode
pub mod DispersalCode
