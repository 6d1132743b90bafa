pub mod SeenRows
pub mod Stacks
