mod Words
pub mod Shift
pub mod KeyRow
pub mod SoundPlaces
pub mod KeyEquation
pub mod ZeroLaw
pub mod MultiplierSteps
pub mod SyndromeSteps
pub mod GatherSteps
pub mod Decide
pub mod Worked
