pub mod Views
pub mod Todo
pub mod Progress
pub mod Steps
pub mod Compared
pub mod Begins
pub mod Begun
pub mod Stands
