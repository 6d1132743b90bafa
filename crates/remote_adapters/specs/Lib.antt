pub mod BlocksAhead
pub mod HomeCounts
pub mod Passes
pub mod Shapes
pub mod Waits
pub mod Yes
