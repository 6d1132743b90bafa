pub mod Ends
pub mod Kept
pub mod Opened
pub mod After
pub mod Pieces
pub mod Instances
