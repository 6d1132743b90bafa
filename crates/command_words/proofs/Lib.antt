mod RowWords
mod WordLaws
mod Spelled
mod InitWords
mod Keys
