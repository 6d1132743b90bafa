mod Words
pub mod Stands
pub mod Steps
pub mod Packs
pub mod Tabled
pub mod Reading
