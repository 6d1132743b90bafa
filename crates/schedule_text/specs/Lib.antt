pub mod Grammar
pub mod Schedules
pub mod Spelling
pub mod Reading
pub mod Events
pub mod Answers
