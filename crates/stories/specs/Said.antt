-- What a text says of a put, and of a get behind it.
--
--   SaysBehind text p middle    == behind whole lines the text says that job p began and ended as a put, and
--                                  then has the line of an outcome for each of these commands, none of which
--                                  asks for a list
--   SaysBefore text front p     == the text has the lines of an outcome for each of these commands, lists among
--                                  them, and then says that job p began and ended as a put; then whole lines
--   SaysPut text front p middle == the text says so in either way
--   SaysGot text front p g middle how == the text says so in front of its last two lines, and these say that
--                                  job g began, and ended with this answer
use Rattle.std.specs.Prelude.{◌≡◌, ◌⊎◌, ℕ, List, ◌++◌, length}
use Rattle.std.specs.List.{AllByRecursion}
use Rattle.stories.specs.Words.{Answer, Put, Outcome, Begun, Ended, lines_of, Instruction, lines_of_all, AskForOneLine, IsToldAnswer, IsToldByLine, IsToldByLines, NoneCalls, IsOfLines}

-- a text says that a put ended well, and has a line for each command behind it
pub record SaysBehind (text : List ℕ) (p : ℕ) (middle : List Instruction) : Type 0 where
  pub front : List ℕ
  pub outcomes : List Outcome
  pub text_is : text ≡ ((front ++ lines_of (Begun p)) ++ lines_of (Ended Put)) ++ lines_of_all outcomes
  pub whole : IsOfLines front
  pub one_each : AskForOneLine middle
  pub as_many : length outcomes ≡ length middle
  pub told : AllByRecursion IsToldByLine outcomes

-- a text has the lines of each command before a put, and says that the put ended well
pub record SaysBefore (text : List ℕ) (front : List Instruction) (p : ℕ) : Type 0 where
  pub outcomes : List Outcome
  pub rest : List ℕ
  pub text_is : text ≡ ((lines_of_all outcomes ++ lines_of (Begun p)) ++ lines_of (Ended Put)) ++ rest
  pub whole : IsOfLines rest
  pub no_calls : NoneCalls front
  pub as_many : length outcomes ≡ length front
  pub told : AllByRecursion IsToldByLines outcomes

-- a text says that a put ended well
abbrev pub SaysPut : List ℕ → List Instruction → ℕ → List Instruction → Type 0
SaysPut text front p middle = SaysBehind text p middle ⊎ SaysBefore text front p

-- a text says so, and that a get behind it ended with an answer
pub record SaysGot (text : List ℕ) (front : List Instruction) (p g : ℕ) (middle : List Instruction)
    (how : Answer) : Type 0 where
  pub before : List ℕ
  pub text_is : text ≡ (before ++ lines_of (Begun g)) ++ lines_of (Ended how)
  pub put : SaysPut before front p middle
  pub told : IsToldAnswer how
