pub mod Values
pub mod Run
pub mod Points
pub mod Told
pub mod CalmRun
pub mod LostGet
pub mod SecondLoss
