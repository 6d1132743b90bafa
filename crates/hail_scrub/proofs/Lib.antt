mod Words
pub mod Given
pub mod Machine
pub mod Rests
pub mod Lefts
pub mod Placed
pub mod Fetching
pub mod Openings
pub mod Storing
pub mod Begins
pub mod Blocks
pub mod Called
pub mod Starts
pub mod Sights
pub mod Overs
