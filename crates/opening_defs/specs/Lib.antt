pub mod Journals
pub mod Opened
