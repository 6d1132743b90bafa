-- The words in which this crate is proved, passed on from one place. Declares nothing.
pub use Rattle.std.proofs.Common.{All, ap, arith, Bool, cond, count_by, drop, false, inl, inr, length, length-append, Option, refl, replicate, subst, suc, sum, sum_by, sym, true, zero, ◌&&◌, ◌*◌, ◌++◌, ◌-◌, ◌<◌, ◌==◌, ◌||◌, ◌∙◌, ◌≡◌, ◌⊎◌}
pub use Rattle.std.proofs.lemmas.Bool.{and_from, and_parts, cases_Bool, cases_eq, cases_lt, eq-eqb, eqb-true, false≢true, lt-ltb, ltb-true, ne_eqb, not-false}
pub use Rattle.std.proofs.lemmas.Bool.Decides.{nat_tests}
pub use Rattle.std.proofs.lemmas.List.Sums.{sum_by-append, sum_by-cons, sum_by-take-drop, sum_by_push}
pub use Rattle.std.specs.List.{Contains, flat_map, list_all, list_any}
pub use Rattle.std.specs.Prelude.{is_some, IsSome, IsTrue, nat_le, nat_lt, slice_get}
pub use Rattle.algebra_laws.proofs.Each.{each_append, each_at_most, each_flat, each_get, each_map, each_zero}
pub use Rattle.algebra_laws.proofs.Lists.{drop-get}
pub use Rattle.algebra_laws.proofs.Options.{some-not-none}
pub use Rattle.algebra_laws.specs.Lists.{Each, In}
pub use Rattle.code_defs.specs.Points.{upto}
pub use Rattle.column_defs.specs.Verdicts.{Sums}
pub use Rattle.machine_defs.proofs.ActionLists.{split_get}
pub use Rattle.machine_defs.proofs.Done.{by_version, done-ended, put_ended}
pub use Rattle.machine_defs.proofs.JobLists.{cond_false, cond_true, found_itself, found_more, found_none, found_with, found_without, number_of, same_value, still_found}
pub use Rattle.machine_defs.proofs.NextActions.{next_stands}
pub use Rattle.machine_defs.proofs.Numbers.{at_three, audits, drawn_later, Draws, first_above, first_below, next_by, next_is_by, objects, Series}
pub use Rattle.machine_defs.proofs.PinFacts.{setup_same}
pub use Rattle.machine_defs.proofs.Pins.{any_aim, any_job, check_alone, in_all, pinned_stands, Stands}
pub use Rattle.machine_defs.proofs.RecordFacts.{AreSound, listed_file}
pub use Rattle.machine_defs.proofs.Refused.{left_false, none-is, none_lone, not_busy, right_false}
pub use Rattle.machine_defs.proofs.Sights.{any-aims, length-aims, stored-file}
pub use Rattle.machine_defs.specs.Actions.{Action, actions_by, actions_left, append_actions, appends_left, Ask, ask_actions, End, ends_append, Fetch, machine_pins, on_each_provider, on_each_stripe, open_actions, read_actions, Remove, remove_actions, repair_actions, rewrite_actions, rounds_of, Store, store_actions, SyncBody, SyncGate, Work, WriteBody, WriteGate}
unfoldable pub use Rattle.machine_defs.specs.Actions.{actions_of}
pub use Rattle.machine_defs.specs.Alone.{alone_refusal, BeginsAlone, BeginsPack, BeginsScrub, pack_causes, new_pack, new_scrub, packing, Packs, Scrubs, StepsAlone, StepsScrub, switched, switching, unalone}
pub use Rattle.machine_defs.specs.Answers.{Answer, Packed, Upgraded}
pub use Rattle.machine_defs.specs.Appends.{audits_drawn, begun_append, bytes_drawn, done_append, done_record, is_first_append, is_pinned, IsAt, removable, subject_drawn, taken_out, Writes}
pub use Rattle.machine_defs.specs.Audits.{challenge_in, HasSums, JudgesFiles, JudgesRound, JudgesRounds}
pub use Rattle.machine_defs.specs.Begins.{beginning, BeginsAt, chosen, due_number, pin_all, pin_by, pin_found, pinned_file, pinned_for, refusal_of_begin, subject_at_begin}
pub use Rattle.machine_defs.specs.Events.{Alter, AreBytes, Begin, BeginAt, BeginPack, BeginScrub, Begun, Closed, Continue, Continued, Ended, Event, Init, IsSpelled, IsSpelledKind, Listed, Lose, More, Names, NothingHeld, Opened, Outcome, Ready, Refused, Reopen, Replaced, Step, Stop, Stopped}
pub use Rattle.machine_defs.specs.Jobs.{advanced, Aim, aim_of, Answered, AuditJob, DropJob, Fetched, GetJob, Given, Job, job_of, Kind, Pinned, PutJob, RepairJob, ToAudit, ToDrop, ToGet, ToPut, ToRepair, ToUpgrade, UpgradeJob, with_job, without_job, Worked}
pub use Rattle.machine_defs.specs.Machine.{Happens, Lists}
pub use Rattle.machine_defs.specs.Refusals.{Cause, first_refusal}
pub use Rattle.machine_defs.specs.Runs.{IsRun, Moment, now}
pub use Rattle.machine_defs.specs.Setups.{object_of, profiled, setup_or_none, stripes_of}
pub use Rattle.machine_defs.specs.Sights.{aims_of, are_jobs_in_the_way, are_numbers_used_up, causes, is_check, is_crowded_for, is_full, is_name_among, is_shut, is_stored, is_too_full, is_upgrade, names_in, names_taken, puts_name, room_used, sight_of, with_name, with_puts}
pub use Rattle.machine_defs.specs.Space.{append_sizes, reserved, room_left}
pub use Rattle.machine_defs.specs.States.{Alone, Append, AreFirst, brought, continued, Doubt, ended, file_in, given_up, going_on, IsStart, journal_end, Pack, Packing, Scrub, Scrubbing, Settles, State, with_provider}
unfoldable pub use Rattle.machine_defs.specs.States.{setup_in}
pub use Rattle.machine_defs.specs.Steps.{is_idle_drop, next_action, Steps}
pub use Rattle.record_defs.proofs.FilesLaws.{before-irrefl, find-files_of, same-eq, same-refl, same-sym}
pub use Rattle.record_defs.proofs.OrderLaws.{few-files_of, is_below, next_audit-fits, next_id-fits, ordered-files_of}
pub use Rattle.record_defs.specs.Acceptance.{AreAccepted, is_crowded, is_due, NoRepair, put_done_refused, refused, refused_after}
pub use Rattle.record_defs.specs.Areas.{A, Area, B, end_in, entries_size, other_area}
pub use Rattle.record_defs.specs.Packed.{AreAlike, as_record, packed, with_due, with_files, with_setup}
pub use Rattle.record_defs.specs.Records.{all_profiles, AuditDone, AuditStart, Drop, InEffect, is_appended, is_in_grammar, is_master, is_name, is_setup, largest_file, largest_journal, most_files, PutDone, PutDoneIn, PutStart, Record, record_size, RepairDone, RepairDue, Resume, SetUp, Setup, Version}
pub use Rattle.record_defs.specs.Table.{are_ordered, Due, due_of, exceeds, File, file_as, file_of, files_of, find_file, is_same_name, is_start_of, next_audit, next_id, profile_in, running_audit, setup_of, started_as, version_of, with_put}
pub use Rattle.state_laws.specs.Follows.{AreHeld, BringsHeld, IsHeld, MayFollow, MayFollowIn}
pub use Rattle.state_laws.specs.Orders.{AreAscending, AreNumbered, IsInOrder, moves_after, moves_before, moves_made}
pub use Rattle.state_laws.specs.Sound.{IsAtRest, IsDoubtOf, IsGatedDoubt, IsIdle, IsLimit, IsPutUnderWay, IsSound, IsSoundAppend, IsSoundJournal, IsSwitchable, starts_left}
pub use Rattle.state_laws.specs.SoundJobs.{HasDrawn, HasPins, IsOlder, IsPin, IsReady, IsSoundJob, IsWish}
