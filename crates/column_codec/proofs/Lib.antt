mod Words
mod Places
mod RowLemmas
mod WeightLemmas
mod OpenLemmas
pub mod PresentLemmas
mod TableLemmas
mod KeptLemmas
mod Windows
mod AgreementLemmas
mod Choices
mod Openings
