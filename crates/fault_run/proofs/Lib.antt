pub mod Run
pub mod Points
