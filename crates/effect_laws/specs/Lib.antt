pub mod Puts
pub mod Lists
pub mod Scrubs
pub mod Transcripts
pub mod Tests
pub mod Counts
pub mod Instances
