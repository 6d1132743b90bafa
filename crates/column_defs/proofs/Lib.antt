mod Words
pub mod MaskLengths
pub mod CountLaws
pub mod SymbolBytes
pub mod PointLaws
pub mod ForgeryLaws
pub mod ColumnLaws
pub mod SecondaryLaws
