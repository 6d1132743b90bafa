-- The words in which this crate is proved, passed on from one place. Declares nothing.
pub use Rattle.std.proofs.Common.{ap, arith, cond, inl, inr, refl, subst, sym, true, ◌&&◌, ◌*◌, ◌-◌, ◌∙◌, ◌⊎◌}
pub use Rattle.std.proofs.lemmas.Bool.{and_from, and_left, and_parts, and_right, cases_Bool, cases_eq, cases_lt, eq-eqb, eqb-true, false≢true, le-leb, le-ltb, leb-true, lt-leb, lt-ltb, ltb-true, ne_eqb, or_cases, or_left, or_right}
pub use Rattle.std.proofs.lemmas.Option.{get_or_from_slice_get, slice_get_within}
pub use Rattle.std.specs.List.{Contains, flat_map, list_any, range_with_len}
pub use Rattle.std.specs.Option.{option_map}
pub use Rattle.std.specs.Prelude.{codes, count_by, drop, is_some, IsSome, IsTrue, nat_le, nat_lt, not, option_and_then, replicate, slice_get, slice_index, ◌||◌}
pub use Rattle.algebra_laws.proofs.Each.{each_append, each_flat, each_flat_in, each_get, each_map, in_contains, in_flat, in_left, in_right}
pub use Rattle.algebra_laws.proofs.Lists.{flat_map-range_same, get-map_range, get_behind, map-range_at, same_or_other}
pub use Rattle.algebra_laws.proofs.Options.{is_some-none, some-not-none}
pub use Rattle.algebra_laws.specs.Lists.{Each, In}
pub use Rattle.code_defs.specs.Points.{upto, values_at}
pub use Rattle.code_defs.specs.Profiles.{profile_of}
pub use Rattle.column_defs.proofs.ColumnLaws.{length-column_of_symbols}
pub use Rattle.column_defs.specs.Challenges.{challenge_of, honest_answer}
pub use Rattle.column_defs.specs.Columns.{column_of_symbols, columns, is_wrong_block, primary_row, row_polynomial}
unfoldable pub use Rattle.column_defs.specs.Columns.{is_wrong}
pub use Rattle.column_defs.specs.Forgeries.{count_of, is_agreeing, IsRow, IsStripeForgery}
pub use Rattle.column_defs.specs.Objects.{bytes_of_symbols, kept_by, Object, point, stripes, symbols_in}
pub use Rattle.column_defs.specs.Opened.{AcceptsRow, AcceptsSymbols, AllOpen, bare, block_at, GivesSymbols, LosesRow, OpensFile, OpensTo, SeenBlock, symbol_in}
pub use Rattle.column_defs.specs.Verdicts.{is_flagged, Judges, Sums}
pub use Rattle.column_laws.proofs.Counts.{count_of-within, opens-at}
pub use Rattle.column_laws.proofs.RightRows.{given-right, kept-symbol, row-right, symbols-right}
pub use Rattle.column_laws.proofs.UniqueLaws.{profile-room}
pub use Rattle.device_defs.specs.Faults.{last_count, Rose}
pub use Rattle.device_defs.specs.ProviderCalls.{AskGives, Asks, FailsToGive, FailsToStore, Fetches, FetchGives, FindsNoMemory, Removes, Replaces, Stores}
pub use Rattle.device_defs.specs.Providers.{HasPlace, Held, LosesPart, Provider, sized, with_block, with_symbol, without_block, without_object}
pub use Rattle.hail_field.specs.Shape.{IsShape}
pub use Rattle.machine_defs.proofs.ActionLists.{split_get}
pub use Rattle.machine_defs.proofs.Asides.{steps_aside}
pub use Rattle.machine_defs.proofs.Cases.{Acting, Beside, by_alone, by_event, Cases, IsLast, IsStill, IsUnstored}
pub use Rattle.machine_defs.proofs.Changes.{Append_is, Block_is, Changes, Doubt_is, Gave, IsGated, IsLone, IsPlain, Job_is, Records_is}
pub use Rattle.machine_defs.proofs.Damaged.{among_all, among_since, first_behind, first_enough, first_fewer}
pub use Rattle.machine_defs.proofs.Done.{by_version, done-ended, put_ended}
pub use Rattle.machine_defs.proofs.Events.{changes, some_told}
pub use Rattle.machine_defs.proofs.Fair.{fair, gate_is_last, HasPin, is_fair, IsFair, put_at, put_next, PutAt, store_place, stores_count}
pub use Rattle.machine_defs.proofs.Gets.{get_file, got_is_opened, HasFile, heard_blocks, own_profile}
pub use Rattle.machine_defs.proofs.Given.{block_at-given, differs-none}
pub use Rattle.machine_defs.proofs.Held.{actions_are, All, all, contains_in, first_all, first_more, remove_kinds, replaced_before, store_kinds}
pub use Rattle.machine_defs.proofs.JobLists.{cond_false, cond_true, found_itself, found_more, found_none, found_with, found_without, number_of, same_value, still_found}
pub use Rattle.machine_defs.proofs.Lone.{ended_of_kind}
pub use Rattle.machine_defs.proofs.NextActions.{actions_by-advanced, next_stands}
pub use Rattle.machine_defs.proofs.Numbers.{at_three, audits, drawn_first, drawn_later, Draws, first_above, first_below, HasNumber, next_by, next_is_by, next_of_records, objects}
pub use Rattle.machine_defs.proofs.PinFacts.{Pins_is, pins_is, setup_kept, setup_same, setup_stays, stands_quiet, wrote_setup}
pub use Rattle.machine_defs.proofs.Pins.{any_aim, in_effect_all, pinned_stands, Wrote}
pub use Rattle.machine_defs.proofs.PutRun.{moments as stored, steps as put_steps, transcript as stored_lines}
pub use Rattle.machine_defs.proofs.PutSteps.{state_1, state_14, state_15, state_2}
pub use Rattle.machine_defs.proofs.Refused.{none_lone, not_busy, right_false}
pub use Rattle.machine_defs.proofs.RunParts.{begun, fits_two, job_at, not_more}
pub use Rattle.machine_defs.proofs.StepEnds.{event_end, HasFailed, IsItsEnd}
pub use Rattle.machine_defs.proofs.Stripes.{get_left}
pub use Rattle.machine_defs.proofs.Untouched.{begun_later, both_none, none_left, none_on, none_ran, none_under_way, only_its, run_back, steps_begin_none}
pub use Rattle.machine_defs.proofs.Written.{IsAppended, IsWritten}
pub use Rattle.machine_defs.specs.Actions.{Action, actions_by, append_actions, Ask, ask_actions, End, ends_append, Fetch, machine_pins, on_each_provider, on_each_stripe, open_actions, read_actions, Remove, remove_actions, repair_actions, rewrite_actions, rounds_of, Store, store_actions, SyncBody, SyncGate, Work, WriteBody, WriteGate}
unfoldable pub use Rattle.machine_defs.specs.Actions.{actions_of}
pub use Rattle.machine_defs.specs.Alone.{alone_refusal, BeginsAlone, block_to_scrub, differs, new_pack, new_scrub, number_alone, off_by, opened_scrub, Packs, scrub_actions, scrub_stores, scrubbed_object, Scrubs, StepsAlone, StepsScrub, unalone}
pub use Rattle.machine_defs.specs.Answers.{Answer, Audited, Got, Lost, Put, Repaired}
pub use Rattle.machine_defs.specs.Appends.{audits_drawn, done_record, is_first_append, is_pinned, Moves, removable, subject_drawn, taken_out, Writes}
pub use Rattle.machine_defs.specs.Audits.{asked_challenge, HasSums, JudgesFiles, JudgesRound, JudgesRounds}
pub use Rattle.machine_defs.specs.Began.{NoneBegan}
pub use Rattle.machine_defs.specs.Begins.{begin_refusal, beginning, Begins, BeginsAt, due_flags, due_number, pin_all, pin_by, pin_found, pinned_file, pinned_for, refusal_of_begin}
pub use Rattle.machine_defs.specs.Calm.{IsCalm, Mark, mark_after, relies, replaced_count, settled_by, since}
pub use Rattle.machine_defs.specs.Damaged.{DamagesOnly}
pub use Rattle.machine_defs.specs.Deeds.{HasMadeStore, Makes, told_block}
pub use Rattle.machine_defs.specs.Events.{Alter, Begin, BeginAt, BeginPack, BeginScrub, Begun, Closed, Continue, Continued, Ended, Event, Init, Listed, Lose, More, Names, NothingHeld, Opened, Outcome, Ready, Refused, Reopen, Replaced, Step, Stop, Stopped, Waiting}
pub use Rattle.machine_defs.specs.Examples.{set_up}
pub use Rattle.machine_defs.specs.Given.{answer_given, answers_given, block_given, blocks_given, pinned_profile, pinned_size, symbols_given}
pub use Rattle.machine_defs.specs.Halves.{AllTell, begun_of, CountRose, EndsWell, GivesOrRose, IsGetRefusal, KeepsSecondHalf, SecondHalf, SecondHalfHolds}
pub use Rattle.machine_defs.specs.Heard.{given_to, heard_by, HoldsForgery}
pub use Rattle.machine_defs.specs.Jobs.{advanced, advanced_with, aim_of, Answered, AuditJob, DropJob, Fetched, GetJob, Given, Job, job_of, Kind, Pinned, PutJob, RepairJob, UpgradeJob, with_job, without_job, Worked}
pub use Rattle.machine_defs.specs.Machine.{Happens, Lists}
pub use Rattle.machine_defs.specs.Missed.{is_wrong_now, is_wrong_told, Misses, MissesNone, NoneMissed}
pub use Rattle.machine_defs.specs.Openings.{Continues, Inits, InitsBy, InitsClosed, LeavesDoubt, Reopens, reread, Stops}
pub use Rattle.machine_defs.specs.Refusals.{Cause, Refusal}
pub use Rattle.machine_defs.specs.Replacements.{ReplacesAt, ReplacesIf}
pub use Rattle.machine_defs.specs.Runs.{came, first_moments, is_replaced_since, is_replacement, IsRun, Moment, newest, now}
pub use Rattle.machine_defs.specs.Scrubs.{AreScrubsCalm, IsScrubCalm, mark_scrubbed, scrub_begun, scrubbed}
pub use Rattle.machine_defs.specs.Setups.{no_setup, object_of, pinned_stripes, profiled, put_stripes, setup_or_none, stripes_of}
pub use Rattle.machine_defs.specs.Sights.{aims_of, are_jobs_in_the_way, is_busy, is_check, is_put_or_check, is_shut, sight_of}
pub use Rattle.machine_defs.specs.States.{Alone, Append, AreFirst, brought, Doubt, file_in, file_object, going_on, IsStart, object_among, object_in, Pack, Packing, pinned_object, Scrub, Scrubbing, Settles, State, with_provider, worked_object}
unfoldable pub use Rattle.machine_defs.specs.States.{setup_in}
pub use Rattle.machine_defs.specs.Steps.{Acts, ActsOrWaits, AskStep, block_to_store, Ends, FetchStep, holder_of, is_idle_drop, next_action, Steps, StepsJob, StepsMine, StepsOn, StepsOne, StepsOpen}
pub use Rattle.machine_defs.specs.Transcripts.{CarriesOut, GoOn, Once, RunJob}
pub use Rattle.machine_defs.specs.Untouched.{ended, given_up, IsUntouched, NoneAsksOn, NoneBeganFor, NoneOn, NoneRuns, Relies}
pub use Rattle.record_defs.proofs.FilesLaws.{same-eq, same-refl}
pub use Rattle.record_defs.specs.Examples.{four}
pub use Rattle.record_defs.specs.Records.{AuditDone, AuditStart, Drop, InEffect, is_name, is_setup, PutDone, PutDoneIn, PutStart, Record, RepairDone, RepairDue, Resume, SetUp, Setup, Version}
pub use Rattle.record_defs.specs.Table.{Due, due_of, exceeds, File, file_as, file_of, files_of, is_name_before, is_same_name, is_start_of, next_audit, next_id, profile_in, setup_of, started_as, version_of, with_file, with_put, without_file}
pub use Rattle.run_laws.proofs.FirstHalf.{first_run, got_right, runs_shape, shape_in}
pub use Rattle.run_laws.proofs.InEffect.{held_file, valid_setup, valid_shape}
pub use Rattle.run_laws.proofs.PutBytes.{stands_by, stands_later, stands_on}
pub use Rattle.run_laws.proofs.SymbolBytes.{bytes_back}
pub use Rattle.run_laws.specs.Stories.{GetEnds, Stored}
pub use Rattle.second_half_laws.specs.Behind.{HasMade}
pub use Rattle.second_half_laws.specs.Damage.{IsBad, IsReplaced, RoseSince}
pub use Rattle.second_half_laws.specs.FewWrong.{is_wrong_given, is_wrong_seen, IsFewWrong}
pub use Rattle.second_half_laws.specs.Gave.{IsAnsweredThen, WasAsked, WasFetched, WasOpened}
pub use Rattle.second_half_laws.specs.Made.{IsEarlier, WasMade}
pub use Rattle.second_half_laws.specs.MarkedRuns.{AreMarks, BeginsNoScrub, IsCalmRun, IsMarkedRun}
pub use Rattle.second_half_laws.specs.Marks.{IsClear, IsEndOfPut, IsFlaggedBy, IsMark, Never, PrecedesPuts, Remains, WasWrong, WrongAt}
pub use Rattle.second_half_laws.specs.Origins.{CameOf, IsHeldThen}
pub use Rattle.second_half_laws.specs.Own.{IsExact, own_blocks}
pub use Rattle.second_half_laws.specs.Sharp.{GivesOrIsLost, IsLostByFaults}
