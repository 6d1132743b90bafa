-- One event performed, behind the run that client and devices have reached.
--
--   outcome_in c came                       == the outcome of what an event came to; a list is answered by
--                                              the client's own table
--   heard_in_came came                      == what the job heard that a step ended
--   AreMomentsOf command last steps         == these are the moments of a command: one event, or steps of a
--                                              job up to one that did not go on
--   Performs start ms command came c d      == behind these moments the command was performed: it came to
--                                              this, and client and devices have reached the moment behind
--                                              it; what all jobs heard grows by what this one heard
--   StandsWhereOpen c d                     == where a vault is open, client and devices stand for some state
--   NoCountFell old new                     == no count of faults of the disk or of a provider fell, and no
--                                              provider came or went
--   KeepsStanding c next old new            == client and devices stand as before where a vault is open, at
--                                              most one job number was used up, a disk that tells goes on to,
--                                              and no count of faults fell
--   IsPerformed command came c next old new == one call performs a command, behind every run, and they are
--                                              kept
use Rattle.std.specs.Prelude.{◌≡◌, ℕ, ◌+◌, ◌≤◌, true, List, [], ◌∷◌, ◌++◌, Option, Some, None, IsSome, is_some, length}
use Rattle.command_defs.specs.Seen.{provider_at}
use Rattle.machine_defs.specs.Events.{Outcome}
use Rattle.machine_defs.specs.Heard.{Entry, heard_in}
use Rattle.machine_defs.specs.Runs.{Moment}
use Rattle.machine_defs.specs.States.{State}
use Rattle.machine_defs.specs.Transcripts.{Instruction, Once, RunJob, RunsToEnd}
use Rattle.vault.specs.declared.turn.Turn.TheVariants as turn
use Rattle.vault_open.specs.Devices.{Devices}
use Rattle.hail_client.specs.declared.client.Client.{Client}
use Rattle.hail_client.specs.declared.turn.ClientTurn.{ClientTurn}
use Rattle.hail_client.specs.declared.turn.ClientTurn.TheVariants as turns
use Rattle.hail_client.specs.Client.{is_open, client_next_job, names_of}
use Rattle.hail_client.specs.Outcomes.{names_outcome}
use Rattle.hail_client.specs.Stands.{IsStanding, IsReached}
use Rattle.hail_replay.specs.declared.came.Came.{Came}
use Rattle.hail_replay.specs.declared.came.Came.TheVariants as came
use Rattle.hail_replay.specs.Came.{came_outcome}

-- the outcome of what an event came to
abbrev pub outcome_in : Client → Option Came → Outcome
outcome_in c (Some what) = came_outcome what
outcome_in c None = names_outcome (names_of c)

-- what the job heard that a turn ended
abbrev pub heard_in_turn : Option ClientTurn → List Entry
heard_in_turn (Some (turns.Job (turn.Done ended))) = ended.heard
heard_in_turn t = []

-- what the job heard that a step ended
abbrev pub heard_in_came : Option Came → List Entry
heard_in_came (Some (came.Stepped t)) = heard_in_turn t
heard_in_came what = []

-- the moments of a command, with the newest apart
abbrev pub AreMomentsOf : Instruction → Moment → List Moment → Type 0
AreMomentsOf (Once event) last steps = (last.event ≡ event) × (steps ≡ [])
AreMomentsOf (RunJob job) last steps = RunsToEnd job last steps

-- behind these moments a command was performed
pub record Performs (start : State) (ms : List Moment) (command : Instruction) (came : Option Came)
    (c : Client) (d : Devices) : Type 0 where
  pub steps : List Moment
  pub last : Moment
  pub moments : AreMomentsOf command last steps
  pub outcome_is : last.outcome ≡ outcome_in c came
  pub reached : IsReached start (last ∷ (steps ++ ms)) c d
  pub heard_is : heard_in start (last ∷ (steps ++ ms)) ≡ heard_in start ms ++ heard_in_came came

-- where a vault is open, client and devices stand for some state
abbrev pub StandsWhereOpen : Client → Devices → Type 0
StandsWhereOpen c d = is_open c ≡ true → IsStanding c d

-- no count of faults fell, and no provider came or went
pub record NoCountFell (old new : Devices) : Type 0 where
  pub disk : old.faults ≤ new.faults
  pub handed : length new.providers ≡ length old.providers
  pub stores : (j : ℕ) → (provider_at old.providers j).store_faults
      ≤ (provider_at new.providers j).store_faults
  pub others : (j : ℕ) → (provider_at old.providers j).other_faults
      ≤ (provider_at new.providers j).other_faults

-- what every event keeps, whatever the devices hold
pub record KeepsStanding (c next : Client) (old new : Devices) : Type 0 where
  pub standing : StandsWhereOpen next new
  pub jobs : client_next_job next ≤ client_next_job c + 1
  pub tells : is_some new.holds ≡ is_some old.holds
  pub counts : NoCountFell old new

-- one call performs a command; over a disk that tells it is an event of the machine
pub record IsPerformed (command : Instruction) (came : Option Came) (c next : Client)
    (old new : Devices) : Type 0 where
  pub machine : (start : State) (ms : List Moment) → IsSome old.holds → IsReached start ms c old
      → Performs start ms command came next new
  pub kept : KeepsStanding c next old new
