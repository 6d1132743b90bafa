pub mod Entries
pub mod NameParts
pub mod Reading
pub mod Limits
