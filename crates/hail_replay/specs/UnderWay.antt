-- A replay and a trial under way, behind a run so far. Commands and moments have the newest first.
--
--   HasCome start base done later lines heard c d == behind a run these moments carry out these commands and
--                                                    write these lines, client and devices have reached the
--                                                    last of them, and the jobs that ended heard this
--   HasDone start base done status sink heard c d == the same of some moments, whose lines were written, or a
--                                                    front of them, cut off in those of the newest command
--   HasRun start base done heard c d              == the same of some moments
--   HasCounted expected start base done counts heard c d
--                                                 == the same of some moments, which come to these counts
use Rattle.std.specs.Prelude.{◌≡◌, ℕ, List, ◌++◌}
use Rattle.command_defs.specs.Sinking.{Sinking, WritesLine}
use Rattle.machine_defs.specs.Heard.{Entry, heard_in}
use Rattle.machine_defs.specs.Runs.{Moment}
use Rattle.machine_defs.specs.States.{State}
use Rattle.machine_defs.specs.Transcripts.{Instruction, CarriesOut}
use Rattle.hail_replay.specs.Counts.{TrialCounts, counts_of}
use Rattle.hail_replay.specs.Replayed.{StopsAtCut}
use Rattle.vault_open.specs.Devices.{Devices}
use Rattle.hail_client.specs.declared.client.Client.{Client}
use Rattle.hail_client.specs.Stands.{IsReached}

-- the moments behind a run carry out these commands
pub record HasCome (start : State) (base : List Moment) (done : List Instruction) (later : List Moment)
    (lines : List ℕ) (heard : List Entry) (c : Client) (d : Devices) : Type 0 where
  pub carried_out : CarriesOut done later lines
  pub reached : IsReached start (later ++ base) c d
  pub heard_is : heard ≡ heard_in start (later ++ base)

-- and their lines were written, or a front of them
pub record HasDone (start : State) (base : List Moment) (done : List Instruction) (status : ℕ)
    (sink : Sinking) (heard : List Entry) (c : Client) (d : Devices) : Type 0 where
  pub later : List Moment
  pub lines : List ℕ
  pub come : HasCome start base done later lines heard c d
  pub wrote : WritesLine lines status sink
  pub stops : StopsAtCut done later lines status sink

-- some moments carry them out
pub record HasRun (start : State) (base : List Moment) (done : List Instruction) (heard : List Entry)
    (c : Client) (d : Devices) : Type 0 where
  pub later : List Moment
  pub lines : List ℕ
  pub come : HasCome start base done later lines heard c d

-- and come to these counts
pub record HasCounted (expected : List ℕ) (start : State) (base : List Moment) (done : List Instruction)
    (counts : TrialCounts) (heard : List Entry) (c : Client) (d : Devices) : Type 0 where
  pub later : List Moment
  pub lines : List ℕ
  pub come : HasCome start base done later lines heard c d
  pub counts_are : counts ≡ counts_of expected done later
