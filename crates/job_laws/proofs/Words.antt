-- The words in which this crate is proved, passed on from one place. Declares nothing.
pub use Rattle.std.proofs.Common.{add-zero, All, ap, arith, Bool, cond, Contains, drop, false, get_or, inl, inr, length, length-append, List, None, Option, refl, Some, subst, suc, sym, take, true, zero, ℕ, [], ◌&&◌, ◌*◌, ◌++◌, ◌+◌, ◌-◌, ◌<◌, ◌==◌, ◌^◌, ◌||◌, ◌∙◌, ◌∷◌, ◌≡◌, ◌≢◌, ◌≤◌, ◌⊎◌}
pub use Rattle.std.proofs.lemmas.Bool.{and_from, and_parts, cases_Bool, cases_eq, cases_lt, eq-eqb, eqb-true, false≢true, ne_eqb, or_parts}
pub use Rattle.std.proofs.lemmas.Grind.{flat_map-append}
pub use Rattle.std.proofs.lemmas.List.{append-nil, append_assoc, take-append-drop, take-append-le}
pub use Rattle.std.proofs.lemmas.List.Sums.{sum_by-append, sum_by-cons}
pub use Rattle.std.specs.List.{flat_map, list_any, range_with_len}
pub use Rattle.std.specs.Option.{option_map}
pub use Rattle.std.specs.Prelude.{IfSome, is_none, is_some, IsSomeAnd, nat_le, nat_lt, slice_get}
pub use Rattle.algebra_laws.proofs.Each.{each_append, each_flat, each_get, each_map, each_middle, each_mono, each_take, in_contains, in_left, in_right}
pub use Rattle.algebra_laws.proofs.Lists.{drop-get, get-map_range}
pub use Rattle.algebra_laws.specs.Lists.{Each, In}
pub use Rattle.code_defs.specs.Points.{upto}
pub use Rattle.column_defs.specs.Challenges.{challenge_of, honest_answer}
pub use Rattle.column_defs.specs.Columns.{column_of_symbols, columns, is_wrong_block, row_polynomial}
unfoldable pub use Rattle.column_defs.specs.Columns.{is_wrong}
pub use Rattle.column_defs.specs.Forgeries.{count_of, is_agreeing, IsForgery}
pub use Rattle.column_defs.specs.Objects.{Object, stripes, symbols_in}
pub use Rattle.column_defs.specs.Opened.{block_at, GivesSymbols, LosesRow, OpensFile, SeenBlock}
pub use Rattle.column_defs.specs.Verdicts.{Judges, Sums}
pub use Rattle.column_laws.proofs.Counts.{count_of-within}
pub use Rattle.column_laws.proofs.RightRows.{row-right}
pub use Rattle.column_laws.proofs.UniqueLaws.{profile-room}
pub use Rattle.command_defs.specs.Audits.{answer_entries, answer_heard, audit_records, AuditGives, AuditIsCut, AuditLeaves, challenge_at, CountsHeard, files_by_number, HearsRounds, JudgesAll, JudgesOne, no_sums, Question, questions, with_number}
pub use Rattle.command_defs.specs.Blocks.{DroppedFrom, PartlyStored, StoredOn}
pub use Rattle.command_defs.specs.Drops.{DropLeaves, DropsFile}
pub use Rattle.command_defs.specs.Gets.{block_heard, blocks_heard, GetGives, GetLeaves, HearsStripes}
pub use Rattle.command_defs.specs.GivenUp.{after_begin, PartLeft, PartRan, PartRuns}
pub use Rattle.command_defs.specs.JobRuns.{AreSteps, GoesOnTo, RunsJob}
pub use Rattle.command_defs.specs.Jobs.{Leaves, LeftAlone, outside, RanAlone, RunsAlone, SameOutside}
pub use Rattle.command_defs.specs.Opens.{setup_in_effect}
pub use Rattle.command_defs.specs.Packs.{PackedAlone, PackLeaves, PacksAlone, RanPack, RunsPack}
pub use Rattle.command_defs.specs.Puts.{put_done, PutIsCut, PutLeaves, StoresAll, StoresFile, StoresPart}
pub use Rattle.command_defs.specs.Ran.{CountsRise, EachHeldGoes, IsCut, IsCutInDoubt, IsWhole, job_number, NoFetches, object_at_begin, object_numbered, profile_among, Ran, ran_alone, ran_from, SameHeld, setup_at_begin, stripes_at_begin}
pub use Rattle.command_defs.specs.Repairs.{blocks_at, flags, Gave, GivesPlace, held_at, IfFlagged, IsTruth, LosesAtPlace, PartlyRewrittenOn, Place, places, RepairGives, RepairLeaves, RewritesAll, RewritesPart, RewritesSome, RewrittenOn}
pub use Rattle.command_defs.specs.Seen.{nobody, provider_at, Seen}
pub use Rattle.command_defs.specs.Truthful.{IsTruthful, missing}
pub use Rattle.command_defs.specs.Upgrades.{UpgradeLeaves}
pub use Rattle.device_defs.proofs.Lasting.{each_image-mono, rose-before}
pub use Rattle.device_defs.specs.Faults.{last_count, Rose}
pub use Rattle.device_defs.specs.ProviderCalls.{AskGives, Asks, FailsToGive, FailsToStore, Fetches, FetchGives, FindsNoMemory, Removes, StoreCounts, Stores}
pub use Rattle.device_defs.specs.Providers.{Held, LosesPart, Provider, sized, with_block, without_object}
pub use Rattle.device_defs.specs.Told.{Goes}
pub use Rattle.hail_field.specs.Shape.{IsShape}
pub use Rattle.lone_laws.proofs.Lists.{made-append, made-one, made-split, take-append-add}
pub use Rattle.lone_laws.proofs.Prefixes.{appends-whole, audit-within, repair-list, upgrade-list}
pub use Rattle.lone_laws.proofs.Walk.{first-body, found, left-start, opened-sound, runs, step-acts, walk-begin, walk-last, walk-step, Wrote, wrote}
pub use Rattle.lone_laws.specs.Made.{block_stored, CallsOne, challenge_made, Did, Made, object_made, With}
pub use Rattle.lone_laws.specs.Walked.{appends_of, first_record, MayName, RecordsAre, Walked, WalkedAt, with_job_at, with_job_of}
pub use Rattle.machine_defs.proofs.ActionLists.{split_get}
pub use Rattle.machine_defs.proofs.Given.{given_to-more, symbols_given-newest}
pub use Rattle.machine_defs.proofs.JobLists.{cond_false, cond_true, number_of, same_value}
pub use Rattle.machine_defs.proofs.NextActions.{next_stands}
pub use Rattle.machine_defs.proofs.RecordFacts.{listed_file}
pub use Rattle.machine_defs.specs.Actions.{Action, actions_by, actions_left, append_actions, appends_left, Ask, ask_actions, End, Fetch, machine_pins, on_each_provider, on_each_stripe, open_actions, read_actions, Remove, remove_actions, repair_actions, rewrite_actions, rounds_of, Store, store_actions, SyncBody, SyncGate, Work, WriteBody, WriteGate}
unfoldable pub use Rattle.machine_defs.specs.Actions.{actions_of}
pub use Rattle.machine_defs.specs.Alone.{differs, found_more, new_scrub, number_alone, opened_scrub, pack_refusal, Packs, scrub_actions, scrubbing, Scrubs, StepsAlone, StepsScrub, unalone}
pub use Rattle.machine_defs.specs.Answers.{Answer, Audited, DiskFault, Dropped, Got, Lost, Memory, ProviderFault, Put, Repaired, Scrubbed, Upgraded}
pub use Rattle.machine_defs.specs.Appends.{audits_drawn, barred, begun_append, bytes_drawn, done_append, done_record, doubted, is_first_append, is_pinned, moved, Moves, removable, subject_drawn, taken_out, unappended, Writes}
pub use Rattle.machine_defs.specs.Audits.{asked_challenge, challenge_in, HasSums, JudgesFiles, JudgesRounds}
pub use Rattle.machine_defs.specs.Begins.{begin_refusal, beginning, BeginsAt, chosen, due_flags, due_number, pin_all, pin_by, pin_found, pinned_file, pinned_for, pins_by, refusal_of_begin, subject_at_begin}
pub use Rattle.machine_defs.specs.Events.{AreBytes, BeginScrub, Begun, Closed, Ended, IsSpelledKind, More, Outcome, Refused, Step, Waiting}
pub use Rattle.machine_defs.specs.Given.{answer_given, answers_given, block_given, blocks_given, file_given, pinned_profile, pinned_size, symbols_given}
pub use Rattle.machine_defs.specs.Heard.{entries_of, Entry, given_to, heard_by, heard_by_kind, HoldsForgery}
pub use Rattle.machine_defs.specs.Jobs.{advanced, advanced_with, aim_of, Answered, AuditJob, DropJob, Fetched, GetJob, Given, Job, job_of, Kind, Pinned, PutJob, RepairJob, UpgradeJob, with_job, Worked}
pub use Rattle.machine_defs.specs.Machine.{Happens}
pub use Rattle.machine_defs.specs.Refusals.{first_refusal, MustReopen, NoSuchJob, Refusal}
pub use Rattle.machine_defs.specs.Runs.{Moment, now}
pub use Rattle.machine_defs.specs.Setups.{object_of, profiled, setup_or_none, stripes_of}
pub use Rattle.machine_defs.specs.Sights.{aims_of, causes, Sight, sight_of}
pub use Rattle.machine_defs.specs.Space.{reserved}
pub use Rattle.machine_defs.specs.Stands.{StandsForState, StandsPlain, StandsSwitched, StandsWithDoubt}
pub use Rattle.machine_defs.specs.States.{Alone, Append, Doubt, ended, file_in, going_on, journal_end, object_among, Pack, Packing, Scrub, Scrubbing, State, with_provider, worked_object}
unfoldable pub use Rattle.machine_defs.specs.States.{setup_in}
pub use Rattle.machine_defs.specs.Steps.{Acts, ActsOrWaits, block_to_store, Ends, Ends as EndsAs, GotBytes, holder_of, is_idle_drop, next_action, Steps, StepsJob, StepsMine, StepsOn, StepsOne, StepsOpen}
pub use Rattle.opening_defs.specs.Opened.{AreHanded, IsJustOpened, IsOpenAtRest}
pub use Rattle.record_defs.specs.Acceptance.{AreAccepted}
pub use Rattle.record_defs.specs.Areas.{A, Area, B, end_in, other_area, StandsActive, text_length}
pub use Rattle.record_defs.specs.Packed.{AreAlike, as_record, packed, with_due, with_files}
pub use Rattle.record_defs.specs.Records.{AuditDone, AuditStart, PutStart, Record, RepairDone, Setup}
pub use Rattle.record_defs.specs.Table.{Due, due_of, File, file_of, files_of, next_audit, next_id, version_of}
pub use Rattle.state_laws.proofs.Begun.{begun-repair, none-applies}
pub use Rattle.state_laws.proofs.Events.{events-sound, moves-next}
pub use Rattle.state_laws.proofs.Given.{valid-shape}
pub use Rattle.state_laws.proofs.Orders.{appends-append, appends-cons, appends-move, appends-order, appends_in, audit-first, audit-later, audit-list, audit_rest, drop_rest, get-none, moves-first, put-first, put-later, put-list, put_rest}
pub use Rattle.state_laws.proofs.Records.{is_some-at, sound-accepted}
pub use Rattle.state_laws.proofs.Written.{body-left, setup-valid}
pub use Rattle.state_laws.specs.Orders.{AreAscending, IsInOrder, moves_before, moves_made}
pub use Rattle.state_laws.specs.Sound.{IsDoubtOf, IsGatedDoubt, IsSound}
pub use Rattle.job_laws.specs.Failing.{bad_count, has_risen, is_bad, is_bad_for, is_bad_with}
