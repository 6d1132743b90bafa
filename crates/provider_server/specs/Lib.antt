pub mod Words
pub mod Answers
pub mod Statuses
pub mod Examples
