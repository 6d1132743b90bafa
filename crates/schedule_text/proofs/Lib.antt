mod Words
pub mod Pieces
pub mod Lines
pub mod Numbers
pub mod Keys
pub mod Fields
pub mod Forms
pub mod Again
pub mod Texts
pub mod Plain
pub mod Spelled
pub mod Sizes
