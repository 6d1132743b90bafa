-- The words in which stories are told, passed on from one place. Declares nothing.
pub use Rattle.column_defs.specs.Verdicts.{is_flagged}
pub use Rattle.device_defs.specs.Cells.{Cells, firm, reads}
pub use Rattle.device_defs.specs.Images.{EachImage}
pub use Rattle.device_defs.specs.Told.{told_then}
pub use Rattle.record_defs.specs.Areas.{A, StandsActive}
pub use Rattle.record_defs.specs.Journal.{text}
pub use Rattle.record_defs.specs.Records.{Record, Setup, Version}
unfoldable pub use Rattle.record_defs.specs.Spellings.{spelling}
pub use Rattle.record_defs.specs.Table.{File, next_audit, setup_of, version_of}
pub use Rattle.machine_defs.specs.Answers.{Answer, Got, Put}
pub use Rattle.machine_defs.specs.Damaged.{AsksDamageOf, DamagesOnly}
pub use Rattle.machine_defs.specs.Events.{AreBytes, Begin, Begun, Continue, Ended, Event, IsSpelled, Opened, Outcome, Reopen, Step, put_event}
pub use Rattle.machine_defs.specs.Examples.{empty_provider}
pub use Rattle.machine_defs.specs.Halves.{AllTell}
pub use Rattle.machine_defs.specs.Heard.{Entry, HoldsForgery, heard_in}
pub use Rattle.machine_defs.specs.Jobs.{Fetched, GetJob, Given, UpgradeJob}
pub use Rattle.machine_defs.specs.Lines.{line, lines_of}
pub use Rattle.machine_defs.specs.Runs.{IsRun, Moment, now}
pub use Rattle.machine_defs.specs.Setups.{setup_or_none}
pub use Rattle.machine_defs.specs.Stands.{IsFresh, StandsForState}
pub use Rattle.machine_defs.specs.States.{IsStart, State, continued, file_in, file_object}
unfoldable pub use Rattle.machine_defs.specs.States.{setup_in}
pub use Rattle.machine_defs.specs.Transcripts.{CarriesOut, Instruction, Once, RunJob, RunsToEnd}
pub use Rattle.machine_defs.specs.Untouched.{IsFree, NoneAsksOn, NoneUnderWay}
pub use Rattle.command_defs.specs.Forms.{AuditAll, Command, GetOf, InitWith, IsForm, Numbers, PackJournal, PutUnder, RepairAll, RowOf, ScrubAll, UpgradeJournal}
pub use Rattle.command_defs.specs.Jobs.{IsTold}
pub use Rattle.command_defs.specs.Lines.{audit_lines}
pub use Rattle.command_defs.specs.Opens.{object_in_effect, setup_in_effect}
pub use Rattle.command_defs.specs.Seen.{Ending, NoCountFalls, Seen, provider_at, sinking}
pub use Rattle.command_laws.specs.After.{Follows, HasRightFile, IsSteady, IsThen, IsUntouched, spoilt_below}
pub use Rattle.command_laws.specs.Ends.{GivesUnlessMemory, IsDone, IsKnown, after_put, after_upgrade, opens_store, put_of}
pub use Rattle.command_laws.specs.Instances.{empty_devices, ends, held_name, with_sink}
pub use Rattle.damage_run.specs.Schedule.{byte}
pub use Rattle.command_runs.specs.Devices.{answers_heard, byte_audited, byte_kept, byte_records, byte_repaired_records, byte_stored, byte_upgraded, damaged, due, ends_hearing, fetched, four_records, given_block, got, got_later, heard, holds, later_heard, mended, named, none_hold, own_block, own_blocks_heard, reading_devices, repaired, robbed_later, swept, to_put, upgraded_kept, with_source}
pub use Rattle.command_runs.specs.Packed.{IsFilling, got_packed, packed_kept, packed_store}
pub use Rattle.hail_client.specs.Stands.{ImageHasFile}
pub use Rattle.hail_client.specs.Start.{TellAll, start_of}
pub use Rattle.hail_replay.specs.Answers.{AnswersReplay, devices_of_seen, longest_schedule}
pub use Rattle.hail_replay.specs.Examples.{ended_with, list_before, list_behind}
pub use Rattle.hail_replay.specs.Forms.{IsFormOf, IsReplayForm}
pub use Rattle.hail_replay.specs.Replayed.{Replays}
pub use Rattle.hail_replay.specs.Starts.{AreLeft, call_from, called_behind}
pub use Rattle.hail_top.specs.Answered.{AnswersWords}
pub use Rattle.hail_top.specs.InitRuns.{InitsDevices, InitsOn}
pub use Rattle.line_laws.specs.Read.{AskForOneLine, lines_of_all}
pub use Rattle.line_laws.specs.Told.{AsksForOneLine, IsOfLines, IsToldAnswer, IsToldByLine, WritesOneLine}
pub use Rattle.effect_laws.specs.Lists.{IsToldByLines, NoneCalls, ReadsAs}
pub use Rattle.effect_laws.specs.Transcripts.{AsksPutsOnly, LeavesFree}
pub use Rattle.run_laws.specs.Stories.{GetEnds, Stored}
pub use Rattle.schedule_text.specs.Schedules.{IsSchedule, lines}
pub use Rattle.second_half_laws.specs.Sharp.{IsLostByFaults}
