-- The words in which this crate is proved, passed on from one place. Declares nothing.
pub use Rattle.std.proofs.Common.{ap, append-nil, append_assoc, arith, Bool, cond, drop, false, get_or, inl, inr, length, List, None, Option, refl, Some, subst, suc, sym, true, zero, ℕ, [], ◌++◌, ◌+◌, ◌<◌, ◌==◌, ◌^◌, ◌∙◌, ◌∷◌, ◌≡◌, ◌≢◌, ◌≤◌, ◌⊎◌}
pub use Rattle.std.proofs.lemmas.Bool.{and_parts, cases_Bool, cases_lt, eq-eqb, eqb-true, false≢true, ne_eqb}
pub use Rattle.std.specs.Fmt.{decimal}
unfoldable pub use Rattle.std.specs.Fmt.{digits}
pub use Rattle.std.specs.List.{AllByRecursion, flat_map, list_all, range_with_len}
pub use Rattle.std.specs.Prelude.{codes, is_some, IsTrue, nat_le, slice_get, ◌&&◌, ◌||◌}
pub use Rattle.algebra_laws.proofs.Options.{is_some-none, some-not-none}
pub use Rattle.algebra_laws.specs.Lists.{In}
pub use Rattle.column_defs.specs.Forgeries.{count_of, IsForgery}
pub use Rattle.line_laws.proofs.Digits.{digits-decimal, IsDigit, number-split}
pub use Rattle.line_laws.proofs.Marks.{differ}
pub use Rattle.line_laws.proofs.OneLine.{one-line}
pub use Rattle.line_laws.specs.Read.{EndsAs, lines_of_all}
pub use Rattle.line_laws.specs.Told.{HasNoNewline, IsShortNumber, IsToldByLine, WritesOneLine}
pub use Rattle.machine_defs.proofs.Began.{Came, came_all, ended_job, is_begun, kind_of}
pub use Rattle.machine_defs.proofs.Changes.{Append_is, Changes, Doubt_is, IsPlain, Job_is, Records_is}
pub use Rattle.machine_defs.proofs.Damaged.{first_behind}
pub use Rattle.machine_defs.proofs.Events.{changes}
pub use Rattle.machine_defs.proofs.Held.{All, all}
pub use Rattle.machine_defs.proofs.JobLists.{cond_false, found_none, same_value}
pub use Rattle.machine_defs.proofs.Numbers.{Draws, first_above, first_below, next_by, next_is_by, next_of_records, objects}
pub use Rattle.machine_defs.proofs.StepEnds.{alone_fails, event_end, HasFailed}
pub use Rattle.machine_defs.proofs.Untouched.{none_left, none_under_way, only_its, run_back, steps_begin_none}
pub use Rattle.machine_defs.specs.Actions.{Action, actions_by, actions_left, append_actions, appends_left, End, remove_actions, Store, SyncBody, SyncGate, Work, WriteBody, WriteGate}
unfoldable pub use Rattle.machine_defs.specs.Actions.{actions_of}
pub use Rattle.machine_defs.specs.Answers.{Answer, Dropped, Got, Put, Scrubbed}
pub use Rattle.machine_defs.specs.Appends.{is_first_append, Moves, Writes}
pub use Rattle.machine_defs.specs.Began.{GivesUp, IsBeginOf, IsPutBegin, NoneBegan}
pub use Rattle.machine_defs.specs.Events.{Begin, BeginAt, Begun, Closed, Continue, Continued, Ended, Event, Listed, More, Names, Opened, Outcome, Reopen, Step}
pub use Rattle.machine_defs.specs.Examples.{set_up}
pub use Rattle.machine_defs.specs.Heard.{given_to, heard_by, heard_in, HoldsForgery, NoneContinues}
pub use Rattle.machine_defs.specs.Jobs.{AuditJob, DropJob, GetJob, Given, Job, job_of, Kind, PutJob, RepairJob, UpgradeJob}
pub use Rattle.machine_defs.specs.Lines.{answer_text, file_line, line, lines_of, then_number}
pub use Rattle.machine_defs.specs.Machine.{Happens, Lists}
pub use Rattle.machine_defs.specs.Runs.{first_moments, IsRun, Moment, now}
pub use Rattle.machine_defs.specs.States.{Append, AreFirst, Doubt, ended, file_in, file_object, IsStart, State, with_doubt}
unfoldable pub use Rattle.machine_defs.specs.States.{setup_in}
pub use Rattle.machine_defs.specs.Steps.{Acts, is_idle_drop, next_action}
pub use Rattle.machine_defs.specs.Transcripts.{CarriesOut, GoOn, Instruction, Once, RunJob, RunsToEnd}
pub use Rattle.machine_defs.specs.Untouched.{IsBeginFor, IsFree, NoneAsksOn, NoneBeganFor, NoneBeganOn, NoneOn, NoneUnderWay, Touches}
pub use Rattle.record_defs.proofs.FilesLaws.{find-files_of, same-eq, same-refl}
pub use Rattle.record_defs.specs.Records.{Drop, is_name, is_name_byte, Record}
pub use Rattle.record_defs.specs.Table.{File, file_as, file_of, files_of, find_file, is_same_name, is_start_of, next_id, started_as, version_of}
pub use Rattle.run_laws.specs.Stories.{GetEnds, GotRight, Stored}
pub use Rattle.state_laws.proofs.Events.{run-sound}
pub use Rattle.state_laws.specs.Sound.{IsDoubtOf, IsGatedDoubt, IsLimit, IsSound, IsSoundAppend}
pub use Rattle.effect_laws.specs.Instances.{again_commands, again_outcomes, byte, commands, first, first_commands, first_outcomes, instructions, moments, name, other, outcomes, put_commands, put_outcomes, PutsAgain, second, told_file}
pub use Rattle.effect_laws.specs.Lists.{AreListed, calls_none, is_call, IsListedAs, IsRead, IsToldByLines, IsToldFile, NoneCalls, ReadsAs}
pub use Rattle.effect_laws.specs.Puts.{DroppedOut, Drops, HasFile, MayStand, NoDropBegan, NoPutBegan, PutsOnly, PutsUnder, WasPut}
pub use Rattle.effect_laws.specs.Transcripts.{AreOverFor, AsksPutsOnly, CarriesApart, EndsApart, job_behind, LeavesFree, NoneAsksFor, NoneDrops, NoneIsBegun, NonePuts, TellsJob}
