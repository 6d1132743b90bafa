pub mod Moves
pub mod Packs
pub mod Actives
pub mod Tables
pub mod Alike
