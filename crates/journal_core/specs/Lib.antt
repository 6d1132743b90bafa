pub mod Lists
pub mod Moves
pub mod FourMoves
pub mod Turns
pub mod Appends
pub mod Gates
pub mod Firm
pub mod Texts
