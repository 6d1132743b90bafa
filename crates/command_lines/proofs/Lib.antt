mod Words
mod ValueSteps
mod ListSteps
mod CountSteps
mod OffSteps
pub mod Pushed
