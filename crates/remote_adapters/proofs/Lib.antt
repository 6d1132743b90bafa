pub mod Hearing
pub mod Shapes
