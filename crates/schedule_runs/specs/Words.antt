-- The words in which runs of schedules are told, passed on from one place. Declares nothing.
pub use Rattle.record_defs.specs.Areas.{A, Area, B, StandsActive, area_of, base_of, entries, magic_front, switch_of}
pub use Rattle.record_defs.specs.Packed.{packed}
pub use Rattle.record_defs.specs.Records.{Record, is_in_grammar}
pub use Rattle.record_defs.specs.Table.{File, version_of}
unfoldable pub use Rattle.machine_defs.specs.Actions.{actions_of}
pub use Rattle.machine_defs.specs.Answers.{Got}
pub use Rattle.machine_defs.specs.Events.{Alter, Begin, BeginAt, BeginPack, BeginScrub, Reopen, Step, Stop}
pub use Rattle.machine_defs.specs.Examples.{set_up}
pub use Rattle.machine_defs.specs.Halves.{AllTell, SecondHalf}
pub use Rattle.machine_defs.specs.Runs.{IsRun, Moment, first_moments, is_replaced_since, now}
pub use Rattle.machine_defs.specs.Scrubs.{IsScrubCalm, scrubbed}
pub use Rattle.machine_defs.specs.States.{IsStart, State, file_in}
unfoldable pub use Rattle.machine_defs.specs.States.{setup_in}
pub use Rattle.machine_defs.specs.Survival.{ComesIn, IsKept, NeverTakenOut, NoneTakesOut}
pub use Rattle.machine_defs.specs.Transcripts.{CarriesOut, Instruction, Once, RunJob}
pub use Rattle.command_defs.specs.Seen.{Ending, Seen, sinking}
pub use Rattle.damage_run.specs.Schedule.{IsOutright, byte, name, schedule, written_lines}
pub use Rattle.fault_run.specs.Faults.{IsFaulty, other}
pub use Rattle.hail_client.specs.Examples.{fresh}
pub use Rattle.hail_client.specs.Start.{start_of}
pub use Rattle.hail_replay.specs.Answers.{DoesSchedule, DoesTrial, IsUndone, devices_of_seen}
pub use Rattle.hail_replay.specs.Starts.{AreLeft, call_from, called_behind}
pub use Rattle.hail_replay.specs.declared.forms.Form.{Form}
pub use Rattle.hail_top.specs.Carried.{KeepsTheHeadline, RunGoesOn}
pub use Rattle.schedule_text.specs.Grammar.{words}
pub use Rattle.schedule_text.specs.Schedules.{AreLines, IsFirstBadLine, IsSchedule, lines}
pub use Rattle.vault_open.specs.Devices.{Devices, devices}
