-- The words in which this crate is proved, passed on from one place. Declares nothing.
pub use Rattle.std.proofs.Common.{ap, append_assoc, arith, Bool, cond, false, get_or, Global, inl, inr, length, List, map, min, None, refl, rules, set, Some, subst, suc, sym, take, true, zero, ℕ, [], ◌++◌, ◌+◌, ◌-◌, ◌/◌, ◌<◌, ◌^◌, ◌∙◌, ◌∷◌, ◌≡◌, ◌≢◌, ◌≤◌}
pub use Rattle.std.proofs.lemmas.Bool.{and_parts, cases_Bool, cases_lt, eq-eqb, eqb-true, false≢true, le-leb, le-ltb, leb-false, lt-leb, lt-ltb, ltb-false, ltb-true, ne_eqb, not-true}
pub use Rattle.std.proofs.lemmas.Bool.Decides.{nat_tests}
pub use Rattle.std.proofs.lemmas.List.{append-nil, drop-append-le, drop_all, drop_at, get_or_past, length-drop, length-map, length-set, length-take-le, map-set, take_all}
pub use Rattle.std.proofs.lemmas.List.Elements.{All-append, All-drop, All-get_or, All-head, All-map, All-push, All-set, All-tail, All-take}
pub use Rattle.std.proofs.lemmas.List.FromFn.{length-range_with_len}
pub use Rattle.std.proofs.lemmas.List.Sums.{list_all-from_AllPass, sum_by-append, sum_by-cons, sum_by-remove, sum_by-set, sum_by_push}
pub use Rattle.std.proofs.lemmas.Nat.{le-div}
pub use Rattle.std.proofs.lemmas.Option.{get_or_from_slice_get, none-some, slice_get-map, slice_get_past, slice_get_read, slice_get_within}
pub use Rattle.std.specs.Cmp.Lexicographic.{pointwise}
pub use Rattle.std.specs.List.{All, AllZip, flat_map, list_all, list_any, position_or_len, range_with_len}
pub use Rattle.std.specs.Option.{option_eq, option_map}
pub use Rattle.std.specs.Prelude.{count_by, eqb, Err, IfErr, IfNone, IfOk, IfSome, if◌then◌else◌, is_err, is_some, IsErrOf, IsTrue, nat_eq, nat_le, nat_lt, Ok, OnErr, OnOk, position, remove, Result, slice_get, slice_set, sum, sum_by, unwrap_or, vec_len, ◌==◌, ◌⊎◌}
pub use Rattle.std.specs.Vec.{with_item}
pub use Rattle.algebra_laws.proofs.Each.{each_append, each_flat, each_get, each_map}
pub use Rattle.algebra_laws.proofs.Lists.{drop-get, get_or-zeros, get_within}
pub use Rattle.algebra_laws.specs.Lists.{Each, In}
pub use Rattle.code_defs.specs.Points.{upto}
pub use Rattle.code_defs.specs.Profiles.{Profile, profile_of}
pub use Rattle.column_defs.specs.Verdicts.{Judges, Sums}
pub use Rattle.machine_defs.proofs.JobLists.{found_itself, number_of, same_value}
pub use Rattle.machine_defs.proofs.NextActions.{next_stands}
pub use Rattle.machine_defs.specs.Actions.{Action, actions_by, actions_left, append_actions, appends_left, Ask, ask_actions, End, ends_append, Fetch, machine_pins, on_each_provider, on_each_stripe, open_actions, Plan, plan_actions, read_actions, Remove, remove_plan, rewrite_plan, rounds_of, Store, store_plan, SyncBody, SyncGate, Work, WriteBody, WriteGate}
unfoldable pub use Rattle.machine_defs.specs.Actions.{actions_of}
pub use Rattle.machine_defs.specs.Alone.{switched}
pub use Rattle.machine_defs.specs.Appends.{barred, begun_append, done_append, done_record, is_first_append, Moves, removable, subject_drawn, taken_out, Writes}
pub use Rattle.machine_defs.specs.Audits.{HasSums, JudgesFiles, JudgesRounds}
pub use Rattle.machine_defs.specs.Begins.{beginning, chosen, due_flags, due_number, pin_by, pin_each, pin_found, pinned_file, pinned_for, pins_by, refusal_of_begin, subject_at_begin}
pub use Rattle.machine_defs.specs.Events.{Begin, BeginAt, Begun, Ended, IsSpelledKind, More, Outcome, Step}
pub use Rattle.machine_defs.specs.Jobs.{Aim, aim_of, Answered, AuditJob, DropJob, Fetched, GetJob, Given, Job as MachineJob, job_of, Kind, Pinned as PinnedBytes, PutJob, RepairJob, ToAudit, ToDrop, ToGet, ToPut, ToRepair, ToUpgrade, UpgradeJob, with_job, without_job, Worked}
pub use Rattle.machine_defs.specs.Left.{most_after, most_left, removes_older}
pub use Rattle.machine_defs.specs.Refusals.{Busy, Cause, first_refusal, Refusal}
pub use Rattle.machine_defs.specs.Setups.{object_of, profiled, stripes_of}
pub use Rattle.machine_defs.specs.Sights.{aims_of, are_jobs_in_the_way, are_numbers_used_up, causes, is_busy, is_check, is_crowded_for, is_full, is_name_among, is_put_or_check, is_shut, is_too_full, is_upgrade, names_in, puts_name, room_used, Sight, sight_of, with_name, with_puts}
pub use Rattle.machine_defs.specs.Space.{append_sizes, reserved, room_left}
pub use Rattle.machine_defs.specs.States.{Alone, Append, ended, file_in, going_on, journal_end, State, with_provider}
unfoldable pub use Rattle.machine_defs.specs.States.{setup_in}
pub use Rattle.machine_defs.specs.Steps.{ActsOrWaits, holder_of, is_idle_drop, next_action, Steps, StepsJob, StepsOn, StepsOne, StepsOpen}
pub use Rattle.record_codec.specs.Entries.{counted, entry_of, IsInGrammar, IsPadded, with_master}
pub use Rattle.record_codec.specs.declared.counts.Counts.{Counts}
pub use Rattle.record_defs.proofs.FilesLaws.{find-files_of}
pub use Rattle.record_defs.specs.Acceptance.{refused}
pub use Rattle.record_defs.specs.Areas.{end_in, other_area}
pub use Rattle.record_defs.specs.Packed.{AreAlike, packed}
pub use Rattle.record_defs.specs.Records.{all_profiles, AuditDone, AuditStart, Drop, is_in_grammar, is_setup, largest_file, largest_journal, most_files, PutDone, PutDoneIn, PutStart, Record, record_size, RepairDone, Setup, Version}
pub use Rattle.record_defs.specs.Table.{Due, due_of, File, files_of, find_file, is_same_name, next_audit, next_id, setup_of, version_of}
pub use Rattle.state_laws.proofs.Events.{events-sound}
pub use Rattle.state_laws.proofs.Gates.{audit-same, decided, drop-list}
pub use Rattle.state_laws.proofs.Going.{actions-onward, count-onward, onward}
pub use Rattle.state_laws.proofs.JobLists.{mine, other, without_job-none}
pub use Rattle.state_laws.proofs.Orders.{audit-first, audit-later, audit-list, audit-second, audit_rest, each-ask, gates, get-drop, in_order-first, moves-first, next-left, put-first, put-later, put-second}
pub use Rattle.state_laws.specs.Orders.{AreNumbered, IsInOrder, moves_before, moves_made}
pub use Rattle.state_laws.specs.Sound.{IsSound}
pub use Rattle.vault_table.specs.Values.{due_of_pair, file_of_entry, forgotten, id_after, IsFoldOf, Kept}
pub use Rattle.vault_core.specs.Carried.{ComesNext, CoreIs, has_asked, HasTold, is_audit_kind, IsAimOf, IsCoreFlight, IsEntryOf, IsJobOf, IsKindOf, IsNextOf, IsPutFrom, IsShortAim, IsShortKindOf, job_begun, longest, pin_of, refusal_of, seen_plan, shown, sums_at_start}
pub use Rattle.vault_core.specs.Changes.{IsPutUnder}
pub use Rattle.vault_core.specs.Coming.{action_next, Acts as ActsNext, asks_next, begins_append, calls_disk, Coming, core_left, entry_in, entry_of_found, entry_of_job, HasReply, is_gone, is_idle, is_last_ask, is_last_ask_of, is_move, IsBarred, IsNoJob, left_in, most_of, next_in, next_of, seen_action, seen_next, TakesReply, Waits, waits_or_acts, written_as, written_by, written_in, written_of}
pub use Rattle.vault_core.specs.Cut.{cursor_behind, cut_tasks, of_length, of_turns, steps_behind}
pub use Rattle.vault_core.specs.Fed.{barred_at, drawn, ended_at, first_action, first_at, freed, gated, gated_by, goes_plainly, HasGated, is_own, is_pinned_in, judged, number_as, number_drawn, removable_in, stepped_job, taken_as, taken_by, with_at}
pub use Rattle.vault_core.specs.Going.{aimed, decides_on, drawn_tasks, is_taker, LeavesBehind, listed_older, removals_of}
pub use Rattle.vault_core.specs.Making.{admitted, appends_for, AreMore, cursor_first, cursor_on, IsMade, most_at, other_actions, pin_of_file, pins_for, size_of_turn, starts_for, subject_for}
pub use Rattle.vault_core.specs.Parts.{comes_to, core_job, is_caller, is_over, is_rewriter, is_start, is_worker, IsCore, IsJobKept, IsSet, IsSteadyJob, IsWithin, MayBeAt, MayBegin, MayFinish, plan_kept, setup_kept, sums_kept, view_of}
pub use Rattle.vault_core.specs.Refusing.{aims_in, aims_kept, refusal_in, sight_in, taken_names}
pub use Rattle.vault_core.specs.Replies.{IsEndAnswer, Tells}
pub use Rattle.vault_core.specs.Reserves.{reserved_of, Reserves, room_behind, sizes_of, starts_by, starts_of}
pub use Rattle.vault_core.specs.Rest.{actions_after, beyond, call_of, calls_from, closing_of, moves_from, numbers, rest_at, rest_from, rewrite_of, rewrites_from, tasks_from, tasks_of, tasks_on, turn_of, turns_from, work_of}
unfoldable pub use Rattle.vault_core.specs.Rest.{rest_of}
pub use Rattle.vault_core.specs.Streams.{AreTold, closed, cut_aim, FitsAim, FitsGiven, given_more, IsGivenLength, IsLongest, IsNextLength, IsStreamAt, IsTold, IsToldAs, MayClose, stripe_size}
pub use Rattle.vault_core.specs.Targets.{stripes_in, targets_of, tasks_made, turns_for}
pub use Rattle.vault_core.specs.View.{appends_in, AreRising, core_pins, CoreJob, CoreView, flag_at, HasLoneUpgrade, HasNoStream, is_open_stream, is_upgrading, job_in, plan_in, planned, rest_in, told_by, told_in, wanted_at, wanted_by, wants_in}
unfoldable pub use Rattle.vault_core.specs.View.{planned_by}
pub use Rattle.vault_core.specs.Wished.{aim_of_wish, HasName, is_closer, is_opener, IsShort, profile_named}
pub use Rattle.vault_core.specs.declared.action.Action.{Action as ActionValue}
pub use Rattle.vault_core.specs.declared.cursor.Cursor.{Cursor}
pub use Rattle.vault_core.specs.declared.cursor.Move.{Move}
pub use Rattle.vault_core.specs.declared.cursor.Spot.{Spot}
pub use Rattle.vault_core.specs.declared.job.Task.{Task}
pub use Rattle.vault_core.specs.declared.own.Core.TheInside.{Inside}
pub use Rattle.vault_core.specs.declared.reply.Reply.{Reply}
pub use Rattle.vault_core.specs.declared.wish.Wish.{Wish}
