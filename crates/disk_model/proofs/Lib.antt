mod Words
pub mod Zips
pub mod FrontLemmas
pub mod PickLemmas
pub mod Tears
pub mod Ranges
