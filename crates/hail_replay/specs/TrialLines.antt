-- What a trial tells of its run.
--
--   TellsTrial number ms text  == these moments carry out the events of the trial of a number, and the text
--                                 is the six lines of their counts
use Rattle.std.specs.Prelude.{◌≡◌, ℕ, List, reverse}
use Rattle.machine_defs.specs.Runs.{Moment}
use Rattle.machine_defs.specs.Transcripts.{CarriesOut}
use Rattle.trial_maker.specs.Trials.{trial_bytes, trial_commands}
use Rattle.hail_replay.specs.Counts.{counts_of, trial_lines}

-- a trial tells of its run; what its events write is left out
pub record TellsTrial (number : ℕ) (ms : List Moment) (text : List ℕ) : Type 0 where
  pub left_out : List ℕ
  pub carried_out : CarriesOut (reverse (trial_commands number)) ms left_out
  pub text_is : text ≡ trial_lines number
      (counts_of (trial_bytes number) (reverse (trial_commands number)) ms)
