pub mod RightAnswers
