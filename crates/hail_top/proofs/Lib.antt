mod Words
mod RowWords
mod RowAnswers
mod AnswerLaws
mod Refused
mod SetUpEnds
mod SetUpReads
mod InitRuns
mod AnswerTexts
mod JobEnds
mod ScrubEnds
mod PackEnds
mod PackRuns
mod Unopened
mod Opened
mod PutEnds
mod ListEnds
mod Answered
mod Taken
mod Carried
pub mod FormWords
mod ServeWords
pub mod Spelled
