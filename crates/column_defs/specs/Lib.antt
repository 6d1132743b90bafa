pub mod Keys
pub mod Generator
pub mod Objects
pub mod Columns
pub mod Opened
pub mod Forgeries
pub mod Challenges
pub mod Verdicts
