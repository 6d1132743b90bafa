mod Words
mod Places
mod Picks
mod RoundLaws
pub mod Worked
