pub mod Generator
pub mod Any
pub mod Products
pub mod Behind
pub mod Transform
