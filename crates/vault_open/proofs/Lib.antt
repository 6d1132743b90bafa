mod Words
pub mod Answers
pub mod Limits
pub mod Texts
pub mod Images
pub mod Readings
pub mod ActiveFolds
pub mod Stores
pub mod Emptied
pub mod FirstRecord
pub mod Prepared
pub mod InitEvents
