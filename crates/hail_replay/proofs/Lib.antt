mod Words
pub mod Digits
pub mod Numbers
pub mod Flags
pub mod Steps
mod Lists
mod Same
mod Standing
mod Counts
mod Behind
mod Arms
mod Performing
mod Wrote
mod Judged
mod Course
pub mod Loops
pub mod EndsWell
