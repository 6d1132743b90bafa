pub mod Words
pub mod Schedule
pub mod Points
pub mod SecondLoss
