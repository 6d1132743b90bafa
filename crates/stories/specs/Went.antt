-- What a user may conclude of a replay.
--
--   WentOn start ms commands old new end == the commands were done behind a later call of the program, and
--                                           their lines are what was written
use Rattle.std.specs.Prelude.{◌≡◌, ℕ, List, ◌++◌, reverse}
use Rattle.headline.specs.Headline.{Headline}
use Rattle.stories.specs.Words.{told_then, heard_in, Moment, State, Instruction, CarriesOut, Seen, Ending, devices_of_seen, AreLeft, called_behind}

-- the commands were done, and their lines are what was written
pub record WentOn (start : State) (ms : List Moment) (commands : List Instruction) (old new : Seen)
    (end : Ending) : Type 0 where
  pub later : List Moment
  pub lines : List ℕ
  pub carried_out : CarriesOut (reverse commands) later lines
  pub written : new.sink ≡ told_then old.sink lines
  pub left : AreLeft start (later ++ called_behind start ms) (devices_of_seen new)
  pub heard : end.heard ≡ heard_in start (later ++ called_behind start ms)
  pub headline : Headline start (later ++ called_behind start ms)
