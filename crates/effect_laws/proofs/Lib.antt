mod Words
pub mod Offers
pub mod Allowed
pub mod Origin
pub mod Steady
pub mod Drops
pub mod Since
pub mod Gets
pub mod Apart
pub mod Asked
pub mod Tested
pub mod Over
pub mod Jobs
pub mod Lists
pub mod Scrubs
pub mod PutAgain
pub mod Named
