mod Words
pub mod SymbolBytes
pub mod Direct
pub mod InEffect
pub mod Files
pub mod FirstHalf
pub mod PutBytes
pub mod ByEvents
pub mod Sums
