-- A schedule carried out.
--
--   CarriesOn start before done later lines heard d
--                            == behind a later call of the program these moments carry out these commands;
--                               the whole is a run, which keeps the headline; its last state is that of the
--                               devices, the jobs of this call heard this, and in it at most as many calls of
--                               a device failed as its count rose
--   but_newest commands      == all commands but the newest
--   StopsAtCut done later lines status sink
--                            == where the line of a command could not be written, nothing was done behind it:
--                               the lines of all commands but the newest were written, and only those of the
--                               newest may have been cut off
--   Replays start before commands status sink heard d
--                            == such moments carry out the commands in order, up to those left, of which
--                               there are none at status 0; their lines are written, or a front of them where
--                               a counted fault of the sink or want of memory cut them off
use Rattle.std.specs.Prelude.{◌≡◌, ℕ, List, [], ◌∷◌, ◌++◌, reverse}
use Rattle.device_defs.specs.Told.{told_then}
use Rattle.command_defs.specs.Sinking.{Sinking, WritesLine}
use Rattle.machine_defs.specs.Failures.{Count, count_in, HasFailures, RoseBy}
use Rattle.machine_defs.specs.Heard.{Entry, heard_in}
use Rattle.machine_defs.specs.Runs.{Moment, now, IsRun}
use Rattle.machine_defs.specs.States.{State}
use Rattle.machine_defs.specs.Transcripts.{Instruction, CarriesOut}
use Rattle.headline.specs.Headline.{Headline}
use Rattle.vault_open.specs.Devices.{Devices, AreDevices}
use Rattle.hail_replay.specs.Starts.{called_behind}

-- moments that carry out commands behind a later call of the program; commands and moments have the newest
-- first
pub record CarriesOn (start : State) (before : List Moment) (done : List Instruction) (later : List Moment)
    (lines : List ℕ) (heard : List Entry) (d : Devices) : Type 0 where
  pub carried_out : CarriesOut done later lines
  pub run : IsRun 8 start (later ++ called_behind start before)
  pub last : AreDevices d (now start (later ++ called_behind start before))
  pub heard_is : heard ≡ heard_in start (later ++ called_behind start before)
  pub counted : (count : Count) (n : ℕ) → HasFailures count (now start (called_behind start before)) later n
      → RoseBy (count_in count (now start (called_behind start before)))
      (count_in count (now start (later ++ called_behind start before))) n
  pub headline : Headline start (later ++ called_behind start before)

-- all commands but the newest, which stands first
abbrev pub but_newest : List Instruction → List Instruction
but_newest [] = []
but_newest (command ∷ commands) = commands

-- the lines of all commands but the newest were written, and behind them those of the newest, or a front of
-- them where a counted fault of the sink or want of memory cut them off
pub record StopsAtCut (done : List Instruction) (later : List Moment) (lines : List ℕ) (status : ℕ)
    (sink : Sinking) : Type 0 where
  pub newest : List Moment
  pub older : List Moment
  pub before : List ℕ
  pub more : List ℕ
  pub moments : later ≡ newest ++ older
  pub others : CarriesOut (but_newest done) older before
  pub lines_are : lines ≡ before ++ more
  pub cut : WritesLine more status (record sink { old = told_then sink.old before })

-- a schedule carried out
pub record Replays (start : State) (before : List Moment) (commands : List Instruction) (status : ℕ)
    (sink : Sinking) (heard : List Entry) (d : Devices) : Type 0 where
  pub done : List Instruction
  pub left : List Instruction
  pub order : commands ≡ reverse done ++ left
  pub whole : status ≡ 0 → left ≡ []
  pub later : List Moment
  pub lines : List ℕ
  pub carries : CarriesOn start before done later lines heard d
  pub wrote : WritesLine lines status sink
  pub stops : StopsAtCut done later lines status sink
