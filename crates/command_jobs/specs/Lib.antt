pub mod Kinds
pub mod Opened
pub mod Going
pub mod Ends
pub mod Pieces
pub mod Streams
pub mod Scrubs
pub mod Packs
