pub mod OneServed
pub mod EndsWell
