-- The words in which runs are told, passed on from one place. Declares nothing.
pub use Rattle.record_defs.specs.Records.{Record, SetUp, PutStart, PutDone, AuditStart, AuditDone, RepairDone, PutDoneIn, Version}
pub use Rattle.record_defs.specs.Table.{File, due_of, next_id, next_audit, version_of}
pub use Rattle.record_defs.specs.Examples.{four}
pub use Rattle.record_defs.specs.Areas.{A, B, other_area}
pub use Rattle.record_defs.specs.Packed.{packed}
pub use Rattle.code_defs.specs.Points.{upto}
pub use Rattle.code_defs.specs.Polynomials.{agree, is_seen, value}
pub use Rattle.column_defs.specs.Objects.{Object, bytes_of_symbols, point, stripes, symbols_in}
pub use Rattle.column_defs.specs.Columns.{columns, is_wrong_block}
unfoldable pub use Rattle.column_defs.specs.Columns.{column_of_symbols, is_wrong}
pub use Rattle.column_defs.specs.Opened.{AllOpen, GivesSymbols, LosesRow, OpensFile, OpensTo, SeenBlock, bare, block_at}
pub use Rattle.column_defs.specs.Forgeries.{IsRow, count_of}
unfoldable pub use Rattle.column_defs.specs.Objects.{symbol_of}
pub use Rattle.device_defs.specs.Providers.{Held, sized, with_symbol, without_block}
pub use Rattle.machine_defs.specs.Setups.{object_of, profiled}
pub use Rattle.machine_defs.specs.Jobs.{Given, Fetched, Kind, PutJob, GetJob, DropJob, AuditJob, RepairJob, UpgradeJob, Job, job_of}
pub use Rattle.machine_defs.specs.Actions.{Action, Store, Fetch, Ask, Remove, End}
unfoldable pub use Rattle.machine_defs.specs.Actions.{actions_of}
pub use Rattle.machine_defs.specs.Answers.{Answer, Put, Got, Dropped, Audited, Repaired, Upgraded, Scrubbed, Lost, ProviderFault, DiskFault}
pub use Rattle.machine_defs.specs.Events.{Alter, AreBytes, Begin, BeginAt, BeginPack, BeginScrub, Begun, Closed, Continue, Continued, Ended, Event, Lose, More, Opened, Outcome, Refused, Reopen, Replaced, Step, Stop, Stopped}
pub use Rattle.machine_defs.specs.States.{Append, Doubt, IsStart, Packing, State, file_in, object_in}
unfoldable pub use Rattle.machine_defs.specs.States.{setup_in}
pub use Rattle.machine_defs.specs.Runs.{Moment, IsRun, now, first_moments, is_replaced_since, came}
pub use Rattle.machine_defs.specs.Calm.{IsCalm, Mark, relies, replaced_count, since}
pub use Rattle.machine_defs.specs.Scrubs.{scrubbed, AreScrubsCalm, IsScrubCalm}
pub use Rattle.machine_defs.specs.Deeds.{Makes, HasStored, HasAsked, told_block}
pub use Rattle.machine_defs.specs.Missed.{is_wrong_now, NoneMissed}
pub use Rattle.machine_defs.specs.Damaged.{DamagesOnly, AsksDamageOf}
pub use Rattle.machine_defs.specs.Untouched.{NoneBeganFor, NoneUnderWay, Relies, ended, given_up, unbegun}
pub use Rattle.machine_defs.specs.Survival.{ComesIn, takes_out, NeverTakenOut, IsKept}
pub use Rattle.machine_defs.specs.Heard.{EndsJob, NoneContinues, heard_in, heard_by, given_to}
pub use Rattle.machine_defs.specs.Failures.{Count, GaveAmiss, HasFailures, IsFailure, OfDisk, OfOthers, OfStores, RoseBy, count_in}
pub use Rattle.machine_defs.specs.Halves.{AllTell, FirstHalf, SecondHalf, IsGetRefusal}
pub use Rattle.machine_defs.specs.Examples.{set_up}
pub use Rattle.made_runs.specs.Turns.{Came, Cut, Gives, Goes, Heard, LosesOne, NoneCame, Notes, StoreFails, Turn, Works, faulted, job_run}
pub use Rattle.made_runs.specs.Sweeps.{Brings, Finds, Mends, Moves, Opens, Tells}
pub use Rattle.made_runs.specs.Instructions.{AreFit, Begins, Comes, Fails, Instruction, Reopens, Stops, Sweeps, Swept, Turned, Turns, begun_by, moment, run_of}
pub use Rattle.second_half_laws.specs.Flagging.{IsAudit, FindsAll}
pub use Rattle.second_half_laws.specs.Marks.{IsMark}
pub use Rattle.second_half_laws.specs.Mended.{IsMended}
pub use Rattle.second_half_laws.specs.MarkedRuns.{BeginsNoScrub, IsMarkedRun, IsCalmRun}
pub use Rattle.second_half_laws.specs.FewWrong.{is_wrong_seen}
pub use Rattle.second_half_laws.specs.Damage.{IsReplaced, RoseSince}
