pub mod HeldBlocks
pub mod SureProvider
pub mod MemProvider
pub mod Liar
pub mod Seen
