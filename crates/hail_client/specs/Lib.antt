pub mod AtWork
pub mod Client
pub mod PackCells
pub mod Outcomes
pub mod Stands
pub mod Start
pub mod Examples
