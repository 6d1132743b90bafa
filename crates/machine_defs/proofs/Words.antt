-- The words in which this crate is proved, passed on from one place. Declares nothing.
pub use Rattle.std.proofs.Common.{ap, arith, Bool, cond, false, inl, inr, refl, replicate, subst, suc, sym, zero, ◌&&◌, ◌-◌, ◌∙◌, ◌≡◌, ◌≤◌, ◌⊎◌}
pub use Rattle.std.proofs.lemmas.Bool.{and_from, and_parts, cases_Bool, cases_eq, cases_lt, eq-eqb, eqb-true, false≢true, le-leb, leb-false, leb-true, lt-leb, lt-ltb, ltb-true, ne_eqb, or_cases, or_parts}
pub use Rattle.std.proofs.lemmas.List.{append-nil, length-append}
unfoldable pub use Rattle.std.specs.Fmt.{digits}
pub use Rattle.std.specs.List.{Contains, flat_map, list_any, range_with_len}
pub use Rattle.std.specs.Option.{option_map}
pub use Rattle.std.specs.Prelude.{codes, if◌then◌else◌, is_some, IsSome, nat_le, nat_lt, not, option_and_then, slice_get, slice_index_or, ◌^◌, ◌≢◌}
pub use Rattle.algebra_laws.proofs.Each.{each_append, each_flat, each_flat_in, each_get, each_map, each_mono}
pub use Rattle.algebra_laws.proofs.Lists.{get-map_range, get_behind, map-same}
pub use Rattle.algebra_laws.specs.Lists.{Each, In}
pub use Rattle.code_defs.specs.Points.{upto}
pub use Rattle.column_defs.specs.Opened.{block_at, GivesSymbols, LosesRow, SeenBlock}
pub use Rattle.device_defs.specs.Faults.{Rose}
pub use Rattle.device_defs.specs.ProviderCalls.{Asks, FailsToStore, Fetches, FindsNoMemory, Removes, Replaces, Stores}
pub use Rattle.device_defs.specs.Providers.{HasPlace, Held, LosesPart, Provider, with_block, with_symbol, without_block, without_object}
pub use Rattle.record_defs.proofs.FilesLaws.{find-files_of, same-eq, same-refl}
pub use Rattle.record_defs.specs.Areas.{Area}
pub use Rattle.record_defs.specs.Records.{all_profiles, AuditDone, AuditStart, Drop, InEffect, is_name, is_setup, largest_file, PutDone, PutDoneIn, PutStart, Record, RepairDone, RepairDue, Resume, SetUp, Setup, Version}
pub use Rattle.record_defs.specs.Table.{due_of, exceeds, File, file_as, file_of, files_of, is_name_before, is_same_name, is_start_of, next_audit, next_id, profile_in, setup_of, started_as, version_of, with_file, with_put, without_file}
pub use Rattle.machine_defs.specs.Actions.{Action, actions_by, append_actions, Ask, ask_actions, End, Fetch, machine_pins, on_each_provider, on_each_stripe, open_actions, read_actions, Remove, remove_actions, repair_actions, rewrite_actions, rounds_of, Store, store_actions, SyncBody, SyncGate, Work, WriteBody, WriteGate}
unfoldable pub use Rattle.machine_defs.specs.Actions.{actions_of}
pub use Rattle.machine_defs.specs.Alone.{alone_refusal, BeginsAlone, block_to_scrub, pack_causes, new_pack, new_scrub, number_alone, pack_refusal, Packs, scrubbed_object, scrubbing, Scrubs, StepsAlone, StepsScrub}
pub use Rattle.machine_defs.specs.Answers.{Answer, Put}
pub use Rattle.machine_defs.specs.Appends.{barred, begun_append, bytes_drawn, done_append, done_record, doubted, is_first_append, is_pinned, IsAt, moved, Moves, removable, subject_drawn, taken_out, unappended, Writes}
pub use Rattle.machine_defs.specs.Began.{GivesUp, IsBeginOf, IsBeginOfKind, IsOfJob, IsPutBegin, NoneBegan, WasBegun}
pub use Rattle.machine_defs.specs.Begins.{beginning, BeginsAt, chosen, new_job, pin_all, pin_by, pin_found, pinned_file, pinned_for, refusal_of_begin}
pub use Rattle.machine_defs.specs.Deeds.{AsksFor, HasAsked, HasMadeStore, HasStored, StoresFor, told_block}
pub use Rattle.machine_defs.specs.Events.{Alter, AreBytes, Begin, BeginAt, BeginPack, BeginScrub, Begun, Closed, Continue, Continued, Ended, Event, Init, Listed, Lose, More, Names, NothingHeld, Opened, Outcome, Ready, Refused, Reopen, Replaced, Step, Stop, Stopped, Waiting}
pub use Rattle.machine_defs.specs.Examples.{set_up}
pub use Rattle.machine_defs.specs.Given.{block_given, blocks_given, file_given, pinned_profile, symbols_given}
pub use Rattle.machine_defs.specs.Heard.{EndsJob, entries_of, Entry, given_to, heard_at, heard_by, heard_by_kind, heard_in, HoldsForgery, NoneContinues, reported_after}
pub use Rattle.machine_defs.specs.Jobs.{advanced, advanced_with, Aim, aim_of, Answered, AuditJob, DropJob, Fetched, GetJob, Given, Job, job_of, Kind, Pinned, PutJob, RepairJob, ToAudit, ToDrop, ToGet, ToPut, ToRepair, ToUpgrade, UpgradeJob, with_job, without_job, Worked}
pub use Rattle.machine_defs.specs.Machine.{Happens, Lists}
pub use Rattle.machine_defs.specs.Openings.{Continues, Inits, InitsBy, InitsClosed, IsNotSetUp, IsSetUp, LeavesDoubt, Reopens, reread, Rereads, Stops}
pub use Rattle.machine_defs.specs.Refusals.{Cause, first_refusal, Refusal}
pub use Rattle.machine_defs.specs.Replacements.{ReplacesAt, ReplacesIf}
pub use Rattle.machine_defs.specs.Runs.{came, first_moments, is_replaced_since, is_replacement, IsRun, Moment, newest, now}
pub use Rattle.machine_defs.specs.Setups.{object_of, pinned_stripes, profiled, put_stripes, setup_or_none, stripes_of}
pub use Rattle.machine_defs.specs.Sights.{aims_of, are_jobs_in_the_way, is_busy, is_check, is_put_or_check, is_shut, is_stored, is_upgrade, sight_of}
pub use Rattle.machine_defs.specs.States.{Alone, Append, AreFirst, brought, continued, Doubt, file_in, file_object, going_on, IsStart, object_in, Pack, Packing, ProviderCall, Scrub, Scrubbing, Settles, State, with_provider, worked_object}
unfoldable pub use Rattle.machine_defs.specs.States.{setup_in}
pub use Rattle.machine_defs.specs.Steps.{Acts, ActsOrWaits, block_to_store, Ends, GotBytes, holder_of, is_idle_drop, next_action, Steps, StepsJob, StepsMine, StepsOn, StepsOne, StepsOpen}
pub use Rattle.machine_defs.specs.Survival.{ComesIn, EndsPut, HasComeIn, IsAcknowledged, IsKept, NeverTakenOut, NoneTakesOut, Survives, takes_out}
pub use Rattle.machine_defs.specs.Transcripts.{CarriesOut, GoOn, Instruction, Once, RunJob}
pub use Rattle.machine_defs.specs.Untouched.{at_start, BeginsNone, IsBeginFor, IsBeginOn, IsUntouched, NoneAsksOn, NoneBeganFor, NoneBeganOn, NoneOn, NoneRuns, NoneUnderWay, Touches, unbegun}
