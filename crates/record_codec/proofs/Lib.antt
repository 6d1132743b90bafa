mod Words
pub mod Fields
pub mod CountsLemmas
pub mod Takes
pub mod NameLemmas
pub mod Values
pub mod Keyed
