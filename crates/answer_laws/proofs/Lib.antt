pub mod Judging
mod Answering
