pub mod Lists
pub mod Field
pub mod Poly
pub mod Rows
pub mod Sums
