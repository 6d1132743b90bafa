mod Words
pub mod Stores
pub mod Puts
pub mod Made
pub mod JobRuns
pub mod GivenUpPut
pub mod Refusals
pub mod Alone
pub mod Meets
