pub mod Nim
pub mod Shape
