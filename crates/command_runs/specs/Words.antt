-- The words in which commands over devices are told, passed on from one place. Declares nothing.
pub use Rattle.code_defs.specs.DispersalCode.{Accepts, AcceptsNone}
pub use Rattle.code_defs.specs.Points.{upto, values_at}
pub use Rattle.column_defs.specs.Columns.{columns, is_wrong_block}
unfoldable pub use Rattle.column_defs.specs.Columns.{column_of_symbols, is_wrong}
pub use Rattle.column_defs.specs.Verdicts.{is_flagged}
pub use Rattle.device_defs.specs.Cells.{Cells, firm}
pub use Rattle.device_defs.specs.Disks.{Stopped, synced}
pub use Rattle.device_defs.specs.Faults.{Rose, one_more}
pub use Rattle.device_defs.specs.Images.{EachImage, IsImage}
pub use Rattle.device_defs.specs.Providers.{Provider, sized}
pub use Rattle.device_defs.specs.Told.{then_told}
pub use Rattle.record_defs.specs.Acceptance.{AreAccepted}
pub use Rattle.record_defs.specs.Areas.{A, Area, B, HasNoFront, IsSwitched, StandsActive, end_in, entries, magic_front}
pub use Rattle.record_defs.specs.Examples.{four}
pub use Rattle.record_defs.specs.Journal.{before_gate, magic, text}
pub use Rattle.record_defs.specs.Records.{AuditDone, AuditStart, Drop, PutDone, PutDoneIn, PutStart, Record, RepairDone, SetUp, Version, is_in_grammar, is_setup, largest_file, largest_journal}
unfoldable pub use Rattle.record_defs.specs.Spellings.{spelling}
pub use Rattle.record_defs.specs.Table.{File, file_of}
pub use Rattle.machine_defs.specs.Actions.{Action, End, Store, append_actions, on_each_provider}
unfoldable pub use Rattle.machine_defs.specs.Actions.{actions_of}
pub use Rattle.machine_defs.specs.Answers.{Answer, Audited, DiskFault, Dropped, Got, Lost, Memory, Packed, ProviderFault, Put, Repaired, Scrubbed, Upgraded}
pub use Rattle.machine_defs.specs.Begins.{beginning}
pub use Rattle.machine_defs.specs.Events.{AreBytes, Ended, IsSpelledKind, More, Step}
pub use Rattle.machine_defs.specs.Examples.{empty_provider}
pub use Rattle.machine_defs.specs.Heard.{Entry, heard_by}
pub use Rattle.machine_defs.specs.Jobs.{Answered, AuditJob, DropJob, Fetched, GetJob, Given, Job, Kind, PutJob, RepairJob, UpgradeJob, job_of}
pub use Rattle.machine_defs.specs.Machine.{Happens}
pub use Rattle.machine_defs.specs.Refusals.{BadProfile, NewVersion, NothingDue, OldVersion, Refusal, RepairDue}
pub use Rattle.machine_defs.specs.Runs.{IsRun, Moment, now}
pub use Rattle.machine_defs.specs.Setups.{object_of, profiled, stripes_of}
pub use Rattle.machine_defs.specs.States.{Doubt, Packing, Scrubbing, State, with_provider}
unfoldable pub use Rattle.machine_defs.specs.States.{setup_in}
pub use Rattle.opening_defs.specs.Journals.{IsBadInit, IsBadStart, IsResynced, IsSetUpAlready, journal_read}
pub use Rattle.opening_defs.specs.Opened.{AreHanded, IsJustOpened, IsOpenAtRest}
pub use Rattle.lone_laws.specs.Walked.{MayName}
pub use Rattle.command_defs.specs.Audits.{CountsHeard, HearsRounds, audit_records}
pub use Rattle.command_defs.specs.Commands.{Answers, AnswersAlone, AnswersList, AnswersPut, TouchesSink}
pub use Rattle.command_defs.specs.Forms.{AuditAll, Command, DropOf, GetOf, InitWith, ListAll, Numbers, PackJournal, PutAt, PutUnder, RepairAll, RowOf, ScrubAll, UpgradeJournal}
pub use Rattle.command_defs.specs.GivenUp.{PartLeft, PartRan, PartRuns, StopsReading, after_begin, put_stripe}
pub use Rattle.command_defs.specs.Inits.{AnswersInit, InitsDisk, setup_with}
pub use Rattle.command_defs.specs.JobRuns.{AreSteps, GoesOnTo, RunsJob}
pub use Rattle.command_defs.specs.Jobs.{AnswersJob, EndsByAnswer, IsNext, IsNextRecord, RanAlone, RunsAlone, SameAround, SameOutside, outside}
pub use Rattle.command_defs.specs.Keys.{IsKeyForm, longest_key}
pub use Rattle.command_defs.specs.Line.{no_row_line, values_line}
pub use Rattle.command_defs.specs.Lines.{audit_lines, dropped_line, pack_text, packed_line, repaired_line, scrub_lines, scrub_text, stored_line, text_of, upgraded_line}
pub use Rattle.command_defs.specs.Opens.{IsOpened, Unstarted, setup_in_effect}
pub use Rattle.command_defs.specs.Packs.{AnswersPack, PackedAlone, PacksAlone, RanPack}
pub use Rattle.command_defs.specs.Puts.{put_records}
pub use Rattle.code_defs.specs.Profiles.{is_unknown}
pub use Rattle.command_defs.specs.Refusals.{pack_refusal_over, refusal_over, status_of}
pub use Rattle.command_defs.specs.Scrubs.{AnswersScrub, RanScrub, RunsScrub, ScrubsAlone}
pub use Rattle.command_defs.specs.Seen.{Ending, IsRefused, IsSynced, ReadsUpTo, SameSource, Seen, nobody, provider_at}
pub use Rattle.command_laws.specs.After.{Follows, HasGrown, HasRightFile, IsSteady, IsSure, IsThen, IsUntouched, is_wrong_at}
pub use Rattle.command_laws.specs.Ends.{EndsInOrder, FaultsHaveCauses, GivesUnlessMemory, GivesUpPut, HoldsFile, IsAudited, IsDropped, IsKnown, IsPacked, IsRepaired, IsScrubbed, IsUpgraded, IsWholePut, ReadsWhole, RunsKind, SameHolds, after_audit, after_put, after_repair, after_upgrade, profile_named, put_of, put_refusal, ran_to}
pub use Rattle.command_laws.specs.Instances.{ends, key_text, other_name, store, with_sink}
pub use Rattle.command_laws.specs.Kept.{AreAppended, FailsToPut, FailsToRepair, FailsToScrub, LeavesImages, LosesFile, LosesRepair, LosesScrub, SameFetches}
pub use Rattle.command_laws.specs.Pieces.{AreCalls, Call, IsChain, IsStore}
pub use Rattle.made_runs.specs.Steps.{called, can_go, can_step, gone, removed, stepped, stored}
pub use Rattle.made_runs.specs.Turns.{AreFitTurns, Came, Cut, FitsStep, FitsTurn, Gives, Goes, Heard, LosesOne, Notes, StoreFails, Turn, Works, after_step, can_go_by, gone_by, is_more, job_run, told, turned}
pub use Rattle.damage_run.specs.Points.{counts}
pub use Rattle.damage_run.specs.Schedule.{byte}
