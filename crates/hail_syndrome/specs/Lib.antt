pub mod Syndromes
pub mod Sound
