pub mod Grown
pub mod SeenBlocks
pub mod Gifts
pub mod BenchIs
pub mod Sights
mod Below
