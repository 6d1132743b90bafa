pub mod Registers
pub mod Rows
pub mod RowState
pub mod GoesOn
pub mod Quotient
pub mod Decoding
pub mod Key
