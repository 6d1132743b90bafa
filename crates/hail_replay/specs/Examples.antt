-- A replay of `list` over an empty disk, a trial for which there was no memory, and one whose events were told
-- as closed.
--
--   list_text, list_commands    == the text of one line, and the command that it spells
--   list_written                == what it writes, since no vault is open
--   list_before, list_behind    == what is seen before it and after it
--   trial_seen                  == what is seen of six providers, an empty disk and empty streams
--   ended_with status           == an end that heard nothing
--   closed_moments w commands   == a moment in this state for each command, which came to `closed`
use Rattle.std.specs.Prelude.{ℕ, List, [], ◌∷◌, Some, codes, replicate}
use Rattle.device_defs.specs.Providers.{Provider}
use Rattle.machine_defs.specs.Events.{Event, Step, Names, Closed}
use Rattle.machine_defs.specs.Lines.{line}
use Rattle.machine_defs.specs.Runs.{Moment}
use Rattle.machine_defs.specs.States.{State}
use Rattle.machine_defs.specs.Transcripts.{Instruction, Once, RunJob}
use Rattle.command_defs.specs.Seen.{Seen, Ending, nobody}

-- the text of one line
abbrev pub list_text : List ℕ
list_text = line (codes "list")

-- the command that it spells
abbrev pub list_commands : List Instruction
list_commands = Once Names ∷ []

-- what it writes, since no vault is open
abbrev pub list_written : List ℕ
list_written = line (codes "closed")

-- an empty disk, these providers, and what the source has and the sink took
abbrev pub over_empty : List Provider → List ℕ → List ℕ → Seen
over_empty providers left written = record {
  disk = Some [];
  disk_faults = 0;
  providers = providers;
  source = Some left;
  source_faults = 0;
  sink = Some written;
  sink_faults = 0;
}

-- what is seen before the replay
abbrev pub list_before : Seen
list_before = over_empty [] list_text []

-- and after it
abbrev pub list_behind : Seen
list_behind = over_empty [] [] list_written

-- six providers of which nothing is known
abbrev pub trial_seen : Seen
trial_seen = over_empty (replicate 6 nobody) [] []

-- an end that heard nothing
abbrev pub ended_with : ℕ → Ending
ended_with status = record { status = status; at = 0; heard = [] }

-- a command as one event
abbrev pub event_of : Instruction → Event
event_of (Once event) = event
event_of (RunJob job) = Step job

-- a moment for each command, which came to `closed`
abbrev pub closed_moments : State → List Instruction → List Moment
closed_moments w [] = []
closed_moments w (command ∷ commands) =
    record { event = event_of command; outcome = Closed; state = w } ∷ closed_moments w commands
