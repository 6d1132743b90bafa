mod Words
pub mod RowSteps
pub mod CountSteps
pub mod MakeSteps
pub mod Blocks
pub mod ProductSteps
pub mod Linear
pub mod Checks
pub mod BehindSteps
pub mod KeyRows
pub mod Nearness
pub mod Clean
pub mod Halves
pub mod TransformSteps
pub mod Basis
pub mod QuarterSums
