-- A trial carried out.
--
--   RunsTrial number start before status sink heard d
--                                        == behind a later call of the program the events of a trial are
--                                           carried out; the six lines of its counts are written, or a front
--                                           of them
--   RunsTo start before commands heard d == commands are carried out in order, up to those left
--   CountsTo expected start before commands counts heard d
--                                        == all of these commands are carried out, and come to these counts
use Rattle.std.specs.Prelude.{◌≡◌, ℕ, List, ◌++◌, reverse}
use Rattle.command_defs.specs.Sinking.{Sinking, WritesLine}
use Rattle.machine_defs.specs.Heard.{Entry}
use Rattle.machine_defs.specs.Runs.{Moment}
use Rattle.machine_defs.specs.States.{State}
use Rattle.machine_defs.specs.Transcripts.{Instruction}
use Rattle.hail_replay.specs.Counts.{TrialCounts, counts_of}
use Rattle.hail_replay.specs.TrialLines.{TellsTrial}
use Rattle.trial_maker.specs.Trials.{trial_commands}
use Rattle.vault_open.specs.Devices.{Devices}
use Rattle.hail_replay.specs.Replayed.{CarriesOn}

-- a trial whose events were all done
pub record RunsTrial (number : ℕ) (start : State) (before : List Moment) (status : ℕ) (sink : Sinking)
    (heard : List Entry) (d : Devices) : Type 0 where
  pub later : List Moment
  pub left_out : List ℕ
  pub carries : CarriesOn start before (reverse (trial_commands number)) later left_out heard d
  pub text : List ℕ
  pub tells : TellsTrial number later text
  pub wrote : WritesLine text status sink

-- a front of commands is carried out
pub record RunsTo (start : State) (before : List Moment) (commands : List Instruction) (heard : List Entry)
    (d : Devices) : Type 0 where
  pub done : List Instruction
  pub left : List Instruction
  pub order : commands ≡ reverse done ++ left
  pub later : List Moment
  pub lines : List ℕ
  pub carries : CarriesOn start before done later lines heard d

-- all of these commands are carried out, and come to these counts
pub record CountsTo (expected : List ℕ) (start : State) (before : List Moment) (commands : List Instruction)
    (counts : TrialCounts) (heard : List Entry) (d : Devices) : Type 0 where
  pub later : List Moment
  pub lines : List ℕ
  pub carries : CarriesOn start before (reverse commands) later lines heard d
  pub counts_are : counts ≡ counts_of expected (reverse commands) later
