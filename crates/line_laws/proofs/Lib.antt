mod Words
pub mod Digits
pub mod Marks
mod Refusals
pub mod Answers
pub mod Outcomes
pub mod OneLine
pub mod LastLines
pub mod OfLines
pub mod Happened
pub mod Read
mod Samples
