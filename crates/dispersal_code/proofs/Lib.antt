mod Words
pub mod PresentSteps
pub mod Erasures
pub mod Unique
pub mod RowSteps
