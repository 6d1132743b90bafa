pub mod Going
pub mod Read
pub mod Runs
mod Idle
