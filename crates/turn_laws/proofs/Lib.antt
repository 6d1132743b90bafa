mod Words
pub mod Shape
pub mod Turned
pub mod Swept
pub mod Parts
