pub mod Blocks
pub mod Bench
pub mod Gifts
pub mod Calls
