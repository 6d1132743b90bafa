pub mod HonestAnswers
pub mod Horner
pub mod RightRow
