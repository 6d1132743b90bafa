-- The words in which this crate is proved, passed on from one place. Declares nothing.
pub use Rattle.std.proofs.Common.{add-zero, ap, append_assoc, arith, Bool, cond, drop, Err, false, get_or, Global, inl, inr, length-append, length-drop, List, map, min, mod-eq_of_lt, None, Ok, Option, refl, replicate, Result, rules, Some, subst, suc, sum_by, sym, take, true, Vec, zero, zero-add, ℕ, [], ◌%◌, ◌*◌, ◌++◌, ◌+◌, ◌-◌, ◌/◌, ◌<◌, ◌^◌, ◌∙◌, ◌∷◌, ◌≡◌, ◌≤◌, ◌⊎◌}
pub use Rattle.std.proofs.Math.Logic.{∥∥₁_elim, ∥∥₁_map}
pub use Rattle.std.proofs.Math.Nat.{div-le_self, div-lt_iff_lt-mul, mul-add-mod_self_right, mul-le-mul, mul-le-mul_left, mul-le-mul_right, ℕ_set}
pub use Rattle.std.proofs.Math.Seq.{drop-append-add, drop-append_seam, take-append-add}
pub use Rattle.std.proofs.Props.{props}
pub use Rattle.std.proofs.lemmas.Bool.{and_parts, cases_Bool, cases_eq, eq-eqb, eqb-false, eqb-true, false≢true, le-ltb, lt-ltb, ltb-false, ltb-true, ne_eqb}
pub use Rattle.std.proofs.lemmas.Iterator.Adapters.{position_from-zero}
pub use Rattle.std.proofs.lemmas.List.{append-nil, drop-replicate, get_or-drop, get_or-replicate, get_or_append_left, length-map, length-replicate, length-take, map-set, take-replicate, take_all, take_more}
pub use Rattle.std.proofs.lemmas.List.Elements.{All-head, All-nil, All-tail, All-take}
pub use Rattle.std.proofs.lemmas.List.Folds.{list_all-append, list_any-append}
pub use Rattle.std.proofs.lemmas.List.FromFn.{length-range_with_len}
pub use Rattle.std.proofs.lemmas.List.Quantifiers.{position-Some}
pub use Rattle.std.proofs.lemmas.List.Sums.{AllPass-from_list_all, list_all-from_AllPass, sum_by-append, sum_by-cons}
pub use Rattle.std.proofs.lemmas.Option.{none-some, same_Some, slice_get-get_or, slice_get_within}
pub use Rattle.std.proofs.lemmas.Result.{IfOk-weaker}
pub use Rattle.std.proofs.lemmas.Slice.Zip.{AllZip-long}
pub use Rattle.std.specs.Int.{from_le_bytes, to_le_bytes, w128}
pub use Rattle.std.specs.List.{AllZip, Contains, flat_map, list_all, list_any, position_from, range_with_len, remove}
pub use Rattle.std.specs.Option.{option_map}
pub use Rattle.std.specs.Prelude.{IfOk, IfSome, if◌then◌else◌, is_some, IsErr, IsErrOf, IsSome, IsTrue, nat_le, nat_lt, not, OnErr, OnOk, position, slice_get, slice_set}
pub use Rattle.algebra_laws.proofs.Each.{each_append, each_at_most, each_flat, each_get, each_map, each_middle, each_zero, in_contains}
pub use Rattle.algebra_laws.proofs.Lists.{get-set_other, get-set_same, get-set_there, map-range_same}
pub use Rattle.algebra_laws.proofs.Options.{is_some-none, some-not-none}
pub use Rattle.algebra_laws.specs.Lists.{Each, In}
pub use Rattle.audit_verdict.specs.Rounds.{sums_of}
pub use Rattle.code_defs.specs.Points.{upto}
pub use Rattle.code_defs.specs.Profiles.{is_unknown, Profile, profile_of}
pub use Rattle.column_codec.proofs.PresentLemmas.{length-present_blocks}
pub use Rattle.column_codec.specs.Bench.{bench_object, turned}
pub use Rattle.column_codec.specs.PresentBlocks.{present_blocks}
pub use Rattle.column_codec.specs.declared.bench.Bench.{Bench}
pub use Rattle.column_defs.proofs.SymbolBytes.{bytes_of_symbols-more, length-bytes_of_symbols, length-symbol}
pub use Rattle.column_defs.specs.Challenges.{bare_answers, challenge_of, honest_answer}
pub use Rattle.column_defs.specs.Objects.{bytes_of_symbols, Object, points, stripe_symbols, stripes, symbols_in}
unfoldable pub use Rattle.column_defs.specs.Objects.{symbol_of}
pub use Rattle.column_defs.specs.Verdicts.{Judges, Sums}
pub use Rattle.device_defs.specs.Cells.{Cells}
pub use Rattle.device_defs.specs.Faults.{HasCause, Rose}
pub use Rattle.device_defs.specs.ProviderCalls.{Asks, FailsToStore, FindsNoMemory, IsBlock, OtherCounts, Removes, Stores}
pub use Rattle.device_defs.specs.Providers.{LosesPart, Provider, without_object}
pub use Rattle.device_defs.specs.Told.{Goes}
pub use Rattle.file_layout.specs.declared.file.FileShape.{FileShape}
pub use Rattle.hail_field.specs.declared.shape.Shape.{Shape, Shape as ShapeValue}
pub use Rattle.hail_field.specs.declared.symbol.Symbol.{Symbol}
pub use Rattle.hail_scrub.proofs.Machine.{handed_same, setup_same}
pub use Rattle.journal_core.proofs.BeyondLemmas.{goes_still}
pub use Rattle.journal_core.specs.Appends.{Appends, body_of, gate_of}
pub use Rattle.journal_core.specs.Moves.{cells_after, MayTear, SameFrom}
pub use Rattle.journal_core.specs.Texts.{AllStandIn, IsAfterMovesIn, IsApart, MayStandWith, StandsFirm}
pub use Rattle.journal_pack.proofs.Tabled.{packed-folds}
pub use Rattle.journal_pack.specs.Packs.{Packs, to_of, WritesText}
pub use Rattle.journal_pack.specs.declared.pack.Pack.{Pack}
pub use Rattle.machine_defs.proofs.JobLists.{cond_false, cond_true, found_itself, found_more, found_none, found_with, found_without, number_of, same_value}
pub use Rattle.machine_defs.proofs.Sights.{length-aims, stored-file}
pub use Rattle.machine_defs.specs.Actions.{actions_by, actions_left, append_actions, ask_actions, End, Fetch, machine_pins, on_each_provider, on_each_stripe, open_actions, Plan, read_actions, Remove, remove_actions, repair_actions, rewrite_actions, rounds_of, store_actions, SyncBody, SyncGate, Work, WriteBody, WriteGate}
unfoldable pub use Rattle.machine_defs.specs.Actions.{actions_of}
pub use Rattle.machine_defs.specs.Alone.{alone_refusal, barred_pack, pack_causes, reaches_over, new_pack, new_scrub, pack_refusal, packing, switched, unalone}
pub use Rattle.machine_defs.specs.Appends.{barred, begun_append, done_append, doubted, is_first_append, IsAt, moved, Moves, subject_drawn, taken_out, unappended, Writes}
pub use Rattle.machine_defs.specs.Audits.{asked_challenge, challenge_in, HasSums, JudgesFiles, JudgesRound, JudgesRounds}
pub use Rattle.machine_defs.specs.Begins.{begin_refusal, beginning, BeginsAt, chosen, new_job, pin_all, pin_by, pin_each, pin_found, pinned_file, refusal_of_begin}
pub use Rattle.machine_defs.specs.Events.{AreBytes, Begun, Ended, IsSpelledKind, More, Outcome, Step}
pub use Rattle.machine_defs.specs.Given.{answer_given, answers_given, block_given, blocks_given, pinned_profile, pinned_size, symbols_given}
pub use Rattle.machine_defs.specs.Heard.{entries_of, heard_by, heard_by_kind}
pub use Rattle.machine_defs.specs.Jobs.{advanced, advanced_with, aim_of, Answered, AuditJob, DropJob, Fetched, GetJob, Given, Job, job_of, Kind, PutJob, RepairJob, ToGet, ToPut, UpgradeJob, with_job, without_job, Worked}
pub use Rattle.machine_defs.specs.Machine.{Happens}
pub use Rattle.machine_defs.specs.Refusals.{Cause, first_refusal}
pub use Rattle.machine_defs.specs.Setups.{object_of, pinned_stripes, profiled, put_stripes, setup_or_none, stripes_of}
pub use Rattle.machine_defs.specs.Sights.{aims_of, is_crowded_for, is_full, is_shut, is_stored, is_upgrade, sight_of, too_old, unknown_profile}
pub use Rattle.machine_defs.specs.Stands.{StandsForState}
pub use Rattle.machine_defs.specs.States.{Alone, Doubt, ended, file_in, going_on, Packing, State, with_provider, worked_object}
unfoldable pub use Rattle.machine_defs.specs.States.{setup_in}
pub use Rattle.machine_defs.specs.Steps.{ActsOrWaits, block_to_store, Ends, GotBytes, is_idle_drop, next_action, Steps, StepsJob, StepsMine, StepsOn, StepsOne, StepsOpen}
pub use Rattle.opening_defs.specs.Opened.{AreHanded, IsJustOpened, IsOpenAtRest}
pub use Rattle.packed_laws.proofs.Spelled.{packed-spelled}
pub use Rattle.record_codec.proofs.Takes.{IsBytes-all}
pub use Rattle.record_codec.specs.Entries.{counted, HasPadding, IsInGrammar, IsPadded, with_master}
pub use Rattle.record_codec.specs.declared.counts.Counts.{Counts}
pub use Rattle.record_defs.proofs.Sizes.{length-entries, length-spelling}
pub use Rattle.record_defs.specs.Acceptance.{AreAccepted, refused}
pub use Rattle.record_defs.specs.Areas.{A, Area, B, base_of, end_in, entries_size, other_area, text_length}
pub use Rattle.record_defs.specs.Packed.{packed}
pub use Rattle.record_defs.specs.Records.{is_byte, is_in_grammar, is_name, is_setup, largest_file, most_files, SetUp, Setup}
pub use Rattle.record_defs.specs.Spellings.{spelling}
pub use Rattle.record_defs.specs.Table.{File, files_of, find_file, setup_of, version_of}
pub use Rattle.state_laws.proofs.Aside.{alone-sound, pack-begins}
pub use Rattle.state_laws.proofs.JobLists.{numbered-below, without_job-none}
pub use Rattle.state_laws.proofs.Orders.{get-drop, next-left, put-list, put_rest}
pub use Rattle.state_laws.proofs.Packs.{journal-packed, journal-same, switched-room}
pub use Rattle.state_laws.proofs.Pinning.{length-pin_all, pins-ascend, pins-few, pins-stored}
pub use Rattle.state_laws.proofs.Records.{file-spelled, setup-more, version-either}
pub use Rattle.state_laws.proofs.Written.{setup-providers, setup-rounds, setup-valid}
pub use Rattle.state_laws.specs.Orders.{AreAscending, AreNumbered, moves_before, moves_made}
pub use Rattle.state_laws.specs.Sound.{IsDoubtOf, IsGatedDoubt, IsSound}
pub use Rattle.stripe_bench.proofs.Gifts.{gifts_give, gifts_more, present_more, worked_is, worked_other}
pub use Rattle.stripe_bench.proofs.Sights.{called-none, called-only, fails_by, fetches_by, found_no_memory, if_given, no_memory_by, seen-at, stores_by, was_failed, was_stored}
pub use Rattle.stripe_bench.specs.Bench.{IsBench}
pub use Rattle.stripe_bench.specs.Blocks.{blocks_in, given_of, Grows, last_blocks}
pub use Rattle.stripe_bench.specs.Calls.{CallsOnly, provider_by, sight}
pub use Rattle.stripe_bench.specs.declared.blocks.Blocks.{Blocks}
pub use Rattle.vault_core.proofs.Alike.{table-like}
pub use Rattle.vault_core.proofs.Onward.{asks_ask}
unfoldable pub use Rattle.vault_core.proofs.Onward.{IsAnAsk}
pub use Rattle.vault_core.proofs.Pairs.{pair_some}
pub use Rattle.vault_core.specs.Carried.{ComesNext, CoreIs, HasTold, is_audit_kind, IsCoreFlight, IsEntryOf, IsJobOf, IsKindOf, job_begun, pin_of, refusal_of, seen_plan, shown}
pub use Rattle.vault_core.specs.Coming.{asks_next, called_provider, calls_disk, Coming, core_left, entry_in, HasReply, is_last_ask, is_last_ask_of, is_move, IsBarred, IsNoJob, next_in, next_of, seen_action, TakesReply}
pub use Rattle.vault_core.specs.Replies.{Tells}
pub use Rattle.vault_core.specs.Streams.{FitsAim, FitsGiven, IsGivenLength, stripe_size}
pub use Rattle.vault_core.specs.View.{CoreJob, CoreView, HasNoStream, job_in, told_by, told_in, wanted_at, wanted_by, wants_in}
pub use Rattle.vault_core.specs.declared.pinned.Pinned.{Pinned as PinnedFile, Pinned as PinnedValue}
pub use Rattle.vault_core.specs.declared.reply.Reply.{Reply}
pub use Rattle.vault_core.specs.declared.wish.BeginFault.{BeginFault}
pub use Rattle.vault_open.proofs.Images.{all-shown, doubt-shown, firm-shown, shown-again, switched-shown}
pub use Rattle.vault_open.proofs.Answers.{err-is}
pub use Rattle.vault_open.specs.Devices.{AreDevices, Devices, devices}
pub use Rattle.vault_table.specs.Values.{file_of_entry, IsFoldOf, Kept}
pub use Rattle.vault.specs.Asking.{ask_put, Asked, CanAsk, challenge_put, HasHeard, HasJudged, IsAuditing, IsAuditNumber, IsQuestion, last_answers, MayAsk, MayPut, MayTell, pin_among, pin_at, pin_in, pin_of_job, profile_or, sums_on, TakesAsk, TellsAsk, vault_object}
pub use Rattle.vault.specs.AtHand.{AreAtHand, hand_of, HasAtHand, HasGiven, HasLast, IsOn, IsStreaming, KeepsStreams, piece_size, TakesPiece, task_of}
pub use Rattle.vault.specs.Benches.{AreOfDesk, AreServed, is_served, is_sized, IsBenchFor, IsNewAudit, IsNewGet, IsNewRepair, IsOfDesk, IsSwapped, stripes_on, TakesUp, Turns, TurnsTo}
pub use Rattle.vault.specs.Calls.{EndsCells, moves_before_next, MovesCells}
pub use Rattle.vault.specs.Desks.{CarriesText, Comes, DeskCarries, DeskMakesBegin, DeskMakesStep, DeskStands, HasEnds, IsAtWork, IsFlight, IsShaped, PutEndsIn}
pub use Rattle.vault.specs.Devices.{cells_by, IsSameBeyond, IsSamePast, records_in_flight}
pub use Rattle.vault.specs.Fetching.{fetch_size, GrowsFetches, HasRoomFor, TakesFetch}
pub use Rattle.vault.specs.Files.{AreShaped, IsShapeFor}
pub use Rattle.vault.specs.Flights.{HasFailed, MakesMove}
pub use Rattle.vault.specs.Heard.{answered_entries, entries_fetched, fetched_entries, fetched_entry}
pub use Rattle.vault.specs.Movers.{ComesMove, IsMover, IsUnbegun}
pub use Rattle.vault.specs.Opening.{CanWork, KeepsHeard, LosesWork, OpensRows, TakesWork, work_blocks, WorksAs}
pub use Rattle.vault.specs.Orders.{asks_left, Between, fetches_left, Fetching, is_ask, is_fetch, is_work, Opened, OpensFrom, Phase, works_left}
pub use Rattle.vault.specs.Outcomes.{begin_outcome, HasPaddedCounts, IfEnded, IsNoAction, machine_answer, outcome_of}
pub use Rattle.vault.specs.Packing.{IsPackOf, IsPackText, IsQuiet, MakesPackStep, pack_begun, PacksOver, plain, StandsPacking}
pub use Rattle.vault.specs.Rounds.{asked_after, AsksOn, JudgesEach, Round, rounds_after, rounds_in}
pub use Rattle.vault.specs.Running.{heard_of, IsFed, IsSameDesk, IsStopped, KeepsAll, place_in, RunsIn}
pub use Rattle.vault.specs.Stands.{MakesBegin, MakesStep, Stands, StandsBeside}
pub use Rattle.vault.specs.Storing.{IsStorer, KeepsTask, stored_block}
pub use Rattle.vault.specs.Streams.{FitsKind, FitsPiece, HasPieceAt, IsPiece, OpensStream, stripe_by}
pub use Rattle.vault.specs.Tasks.{answered_gifts, AreOfSetup, AreRunning, empty_sums, fetched_in, HasAnswered, HasBenchFor, HasFetched, IsAsked, IsAtHand, IsAudit, IsGet, IsInWork, IsPutTask, IsRepair, IsRunning, IsStream, IsTask, OneHas}
pub use Rattle.vault.specs.declared.desk.Desk.{Desk}
pub use Rattle.vault.specs.declared.flight.Flight.{Flight}
pub use Rattle.vault.specs.declared.packing.PackJob.{PackJob}
pub use Rattle.vault.specs.declared.question.Question.{Question}
pub use Rattle.vault.specs.declared.tasks.AuditTask.{AuditTask}
pub use Rattle.vault.specs.declared.tasks.GetTask.{GetTask}
pub use Rattle.vault.specs.declared.tasks.RepairTask.{RepairTask}
pub use Rattle.vault.specs.declared.tasks.Running.{Running}
pub use Rattle.vault.specs.declared.tasks.StreamTask.{StreamTask}
pub use Rattle.vault.specs.declared.tasks.Task.{Task}
pub use Rattle.vault.specs.declared.turn.Answer.{Answer}
pub use Rattle.vault.specs.declared.turn.Turn.{Turn}
pub use Rattle.vault.specs.declared.vault.Vault.{Vault}
