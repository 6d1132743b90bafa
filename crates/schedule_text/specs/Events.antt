-- The plain data of events.
--
--   put_command name bytes profile == the begin of a put, with a profile of its own where one is named
--   event_command event            == the event as a command of the machine: `Run` is as many steps as it
--                                     takes, `List` asks for the names
--   commands_of events             == the same of each
use Rattle.std.specs.Prelude.{ℕ, List, map, Option}
use Rattle.record_codec.specs.Entries.{with_master}
use Rattle.machine_defs.specs.Jobs.{GetJob, DropJob, AuditJob, RepairJob, UpgradeJob}
use Rattle.machine_defs.specs.Events.{Init, Begin, BeginScrub, BeginPack, put_event, Step, Alter, Lose, Stop, Reopen, Names}
use Rattle.machine_defs.specs.Transcripts.{Instruction, Once, RunJob}
use Rattle.schedule_text.specs.declared.event.Event.{Event}
use Rattle.schedule_text.specs.declared.event.Event.TheVariants as kind

-- the begin of a put, with a profile of its own where one is named
abbrev pub put_command : List ℕ → List ℕ → Option ℕ → Instruction
put_command name bytes profile = Once (put_event profile name bytes)

-- an event as a command of the machine
abbrev pub event_command : Event → Instruction
event_command (kind.Init setup master) = Once (Init (with_master setup master.0))
event_command (kind.BeginPut name bytes profile) = put_command name bytes profile
event_command (kind.BeginGet name) = Once (Begin (GetJob name))
event_command (kind.BeginDrop name) = Once (Begin (DropJob name))
event_command kind.BeginAudit = Once (Begin AuditJob)
event_command kind.BeginRepair = Once (Begin RepairJob)
event_command kind.BeginUpgrade = Once (Begin UpgradeJob)
event_command kind.BeginScrub = Once BeginScrub
event_command kind.BeginPack = Once BeginPack
event_command (kind.Step job) = Once (Step job)
event_command (kind.Run job) = RunJob job
event_command (kind.Alter provider object stripe place symbol) =
    Once (Alter provider object stripe place symbol)
event_command (kind.Lose provider object stripe) = Once (Lose provider object stripe)
event_command (kind.Stop picks) = Once (Stop picks)
event_command kind.Reopen = Once Reopen
event_command kind.List = Once Names

-- the commands of events
abbrev pub commands_of : List Event → List Instruction
commands_of events = map event_command events
