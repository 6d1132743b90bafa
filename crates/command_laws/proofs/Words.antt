-- The words in which this crate is proved, passed on from one place. Declares nothing.
pub use Rattle.std.proofs.Common.{All, ap, append_assoc, arith, Bool, cond, Contains, drop, false, get_or, inl, inr, IsUtf8, length, length-append, length-take, List, lit≤, map, None, not, Option, refl, reverse, Some, String, subst, suc, sum, sym, take, true, zero, ℕ, [], ◌*◌, ◌++◌, ◌+◌, ◌-◌, ◌/◌, ◌<◌, ◌==◌, ◌^◌, ◌∙◌, ◌∷◌, ◌≡◌, ◌≢◌, ◌≤◌, ◌⊎◌}
pub use Rattle.std.proofs.lemmas.Bool.{and_from, and_parts, cases_Bool, cases_eq, cases_lt, eq-eqb, eqb-true, false≢true, le-ltb, lt-ltb, ltb-true, ne_eqb, or_parts}
pub use Rattle.std.proofs.lemmas.Bool.Decides.{nat_tests}
pub use Rattle.std.proofs.lemmas.List.{append-nil, drop_at, get_or-replicate, length-replicate, length-reverse, length-set, reverse-append, take-append-drop}
pub use Rattle.std.specs.List.{flat_map, list_all, range_with_len}
pub use Rattle.std.specs.Option.{option_map}
pub use Rattle.std.specs.Prelude.{IfSome, is_none, is_some, IsSome, IsSomeAnd, nat_le, nat_lt, slice_get, slice_set}
pub use Rattle.algebra_laws.proofs.Each.{each_append, each_map, in_flat}
pub use Rattle.algebra_laws.proofs.Numbers.{not_two}
pub use Rattle.algebra_laws.proofs.Options.{is_some-none, is_some-option_map}
pub use Rattle.algebra_laws.specs.Lists.{Each, In}
pub use Rattle.code_defs.specs.Points.{upto}
pub use Rattle.column_defs.specs.Columns.{column_of_symbols, columns, is_wrong, is_wrong_block}
pub use Rattle.column_defs.specs.Objects.{Object, point, stripes, symbols_in}
pub use Rattle.column_defs.specs.Opened.{block_at, GivesSymbols, OpensTo, SeenBlock, symbol_in}
pub use Rattle.column_defs.specs.Verdicts.{is_flagged, Sums}
pub use Rattle.column_laws.proofs.Counts.{count_of-within, opens-at}
pub use Rattle.column_laws.proofs.Worked.{column-right}
pub use Rattle.command_defs.proofs.Keys.{IsKeyForm-once}
pub use Rattle.command_defs.specs.Audits.{audit_records, AuditGives, AuditIsCut, CountsHeard, files_by_number, HearsRounds, with_number}
pub use Rattle.command_defs.specs.Blocks.{DroppedFrom, PartlyStored, StoredOn}
pub use Rattle.command_defs.specs.Commands.{Answers, AnswersAlone, AnswersList, AnswersPut, ListsFiles, MayBeWhole}
pub use Rattle.command_defs.specs.Drops.{DropLeaves}
pub use Rattle.command_defs.specs.Forms.{AuditAll, Command, DropOf, GetOf, InitWith, IsForm, IsNamedForm, ListAll, Numbers, PackJournal, PutAt, PutUnder, RepairAll, RowOf, ScrubAll, UpgradeJournal}
pub use Rattle.command_defs.specs.Gets.{block_heard, GetGives, GetLeaves, HearsStripes, LosesStripe}
pub use Rattle.command_defs.specs.GivenUp.{after_begin, PartLeft, PartRan, PartRuns, put_stripe, StopsReading}
pub use Rattle.command_defs.specs.Inits.{AnswersInit, InitsDisk, setup_with}
pub use Rattle.command_defs.specs.JobRuns.{AreSteps, GoesOnTo, RunsJob, RunsPart}
pub use Rattle.command_defs.specs.Jobs.{AnswersJob, EndsByAnswer, IsTold, LeavesBy, LeftAlone, outside, RanAlone, RunsAlone, SameOutside, with_next}
pub use Rattle.command_defs.specs.Keys.{IsKeyForm, longest_key}
pub use Rattle.command_defs.specs.Lines.{audit_lines, dropped_line, list_lines, pack_text, packed_line, ready_line, repaired_line, scrub_text, stored_line, text_of, upgraded_line}
pub use Rattle.command_defs.specs.Opens.{IsOpened, object_in_effect, setup_in_effect, Unstarted}
pub use Rattle.command_defs.specs.Packs.{AnswersPack, PackedAlone, PackLeaves, PacksAlone, RanPack}
pub use Rattle.command_defs.specs.Puts.{MayHaveEnd, put_done, put_records, PutIsCut, PutLeaves}
pub use Rattle.command_defs.specs.Ran.{IsCut, IsCutInDoubt, IsWhole, job_number, object_at_begin, object_numbered, Ran, ran_alone, SameHeld, setup_at_begin, stripes_at_begin}
pub use Rattle.code_defs.specs.Profiles.{is_unknown}
pub use Rattle.command_defs.specs.Refusals.{pack_refusal_over, refusal_over, sight_over, status_of}
pub use Rattle.command_defs.specs.Repairs.{blocks_at, flags, Gave, GivesPlace, held_at, IfFlagged, IsTruth, LosesAtPlace, PartlyRewrittenOn, Place, places_of, RepairGives, RewritesAll, RewritesPart, RewrittenOn}
pub use Rattle.command_defs.specs.Row.{AnswersRow}
pub use Rattle.command_defs.specs.Scrubs.{AnswersScrub, everyone, RanScrub, RunsScrub, ScrubbedAlone, ScrubGives, ScrubsAlone, SweepsAll}
pub use Rattle.command_defs.specs.Seen.{Ending, IsRefused, IsSynced, KeepsDisk, nobody, NoCountFalls, provider_at, ReadsFront, ReadsUpTo, SameSource, Seen, sinking}
pub use Rattle.command_defs.specs.Sinking.{TellsLine, WritesLine}
pub use Rattle.device_defs.proofs.Lasting.{each_image-mono, image-firm, reads-firm, rose-before}
pub use Rattle.device_defs.proofs.PickLaws.{IsImage-reads}
pub use Rattle.device_defs.specs.Cells.{Cells, firm, reads}
pub use Rattle.device_defs.specs.Disks.{Stopped, synced, written}
pub use Rattle.device_defs.specs.Faults.{last_count, Rose}
pub use Rattle.device_defs.specs.Images.{EachImage, IsImage}
pub use Rattle.device_defs.specs.Providers.{HasPlace, Held, Provider, sized, with_symbol, without_block}
pub use Rattle.device_defs.specs.Told.{TakesFront, then_told, told_then}
pub use Rattle.hail_field.specs.Shape.{IsShape}
pub use Rattle.job_laws.proofs.Complete.{audit-end, bad-block, block_at-map, drop-end, each-not-wrong, get-complete, get-forged, get-right, not-risen, not-wrong-each, put-end, shape-of, upgrade-end, wrong-sized}
pub use Rattle.job_laws.proofs.Mended.{lost-none, repair-end}
pub use Rattle.job_laws.proofs.Parts.{part-left}
pub use Rattle.job_laws.proofs.Telling.{opened_state, state-over}
pub use Rattle.job_laws.specs.Failing.{bad_count, bad_seen, has_risen, is_bad, is_bad_for, is_bad_with}
pub use Rattle.journal_core.proofs.Meanings.{bad_is_none, one_list, one_meaning, one_place}
pub use Rattle.lone_laws.specs.Walked.{MayName, WalkedAt}
pub use Rattle.machine_defs.proofs.JobLists.{cond_false, cond_true, same_value}
pub use Rattle.machine_defs.specs.Actions.{Action, End, Store, SyncBody, SyncGate, Work, WriteBody, WriteGate}
unfoldable pub use Rattle.machine_defs.specs.Actions.{actions_of}
pub use Rattle.machine_defs.specs.Alone.{number_alone, reaches_over, unalone}
pub use Rattle.machine_defs.specs.Answers.{Answer, Audited, Got, Packed, Put, Repaired, Scrubbed, Upgraded}
pub use Rattle.machine_defs.specs.Begins.{beginning, BeginsAt, chosen, refusal_of_begin}
pub use Rattle.machine_defs.specs.Events.{Alter, AreBytes, BeginPack, BeginScrub, Begun, Continue, Continued, Ended, Event, Init, IsSpelled, IsSpelledKind, Listed, Lose, More, Names, NothingHeld, Opened, Outcome, Refused, Reopen, Replaced, Step, Stop, Stopped as HasStopped}
pub use Rattle.machine_defs.specs.Heard.{Entry, given_to, HoldsForgery}
pub use Rattle.machine_defs.specs.Jobs.{Answered, AuditJob, DropJob, Fetched, GetJob, Given, Job, job_of, Kind, PutJob, RepairJob, ToPut, ToUpgrade, UpgradeJob, Worked}
pub use Rattle.machine_defs.specs.Machine.{Happens}
pub use Rattle.machine_defs.specs.Refusals.{DiskFault, Refusal}
pub use Rattle.machine_defs.specs.Runs.{IsRun, Moment, now}
pub use Rattle.machine_defs.specs.Setups.{object_of, profiled, setup_or_none, stripes_of}
pub use Rattle.machine_defs.specs.Sights.{are_numbers_used_up, causes, is_crowded_for, is_too_full}
pub use Rattle.machine_defs.specs.Stands.{StandsForState, StandsPlain, StandsSwitched, StandsWithDoubt}
pub use Rattle.machine_defs.specs.States.{Alone, Append, continued, Doubt, given_up, State, with_provider}
unfoldable pub use Rattle.machine_defs.specs.States.{setup_in}
pub use Rattle.machine_defs.specs.Steps.{Acts, Steps, StepsJob, StepsMine, StepsOne, StepsOpen}
pub use Rattle.opening_defs.proofs.Readings.{bad-once, fresh-good, read-good, read-good as read-never-bad, read-once, read-set_up}
pub use Rattle.opening_defs.proofs.Resyncs.{image-resynced, resynced, resynced-equal}
pub use Rattle.opening_defs.proofs.SetUps.{set_up-firm, set_up-free, set_up-stands}
pub use Rattle.opening_defs.specs.Journals.{BeginsOtherwise, BeginsWithSetup, IsBadInit, IsBadStart, IsBlankIn, IsFree, IsRead, IsResynced, IsSetUpAlready, IsSetUpOn, journal_read, MayBeLeft}
pub use Rattle.opening_defs.specs.Opened.{AreHanded, IsJustOpened, IsOpenAtRest}
pub use Rattle.record_defs.proofs.FilesLaws.{find-files_of, same-refl}
pub use Rattle.record_defs.proofs.PackLaws.{packed_are}
pub use Rattle.record_defs.proofs.Standing.{active-front, active-take, stands-front, stands-long}
pub use Rattle.record_defs.specs.Acceptance.{AreAccepted, refused}
pub use Rattle.record_defs.specs.Areas.{A, Area, B, base_of, end_in, entries, magic_front, other_area, StandsActive, text_length}
pub use Rattle.record_defs.specs.Journal.{StandsFor, text}
pub use Rattle.record_defs.specs.Packed.{AreAlike, packed}
pub use Rattle.record_defs.specs.Reading.{HasNoSetup}
pub use Rattle.record_defs.specs.Records.{all_profiles, AuditDone, AuditStart, Drop, InEffect, is_byte, is_in_grammar, is_master, is_name, is_name_byte, is_setup, largest_file, largest_journal, PutDone, PutDoneIn, PutStart, Record, RepairDone, RepairDue, Resume, SetUp, Setup, Version}
unfoldable pub use Rattle.record_defs.specs.Spellings.{spelling}
pub use Rattle.record_defs.specs.Table.{Due, due_of, exceeds, File, file_as, file_of, files_of, find_file, is_same_name, is_start_of, next_audit, next_id, profile_in, setup_of, started_as, version_of}
pub use Rattle.state_laws.proofs.Events.{events-sound}
pub use Rattle.state_laws.proofs.Packs.{file-alike, journal-whole, switched-room}
pub use Rattle.state_laws.proofs.Records.{file-spelled, is_some-at, none-set_up, second-set_up, setup-more, sound-accepted, version-either}
pub use Rattle.state_laws.proofs.Resting.{rest-sound}
pub use Rattle.state_laws.specs.Sound.{IsSound}
pub use Rattle.turn_laws.proofs.Parts.{part-so}
pub use Rattle.turn_laws.proofs.Shape.{always, bytes_at-same, file-long, four}
pub use Rattle.turn_laws.proofs.Swept.{Pack, pack-so, scrubs-so}
pub use Rattle.turn_laws.proofs.Turned.{put-so, PutRun, ran-over, ran-plain, Run, turn}
pub use Rattle.command_laws.specs.After.{Follows, HasGrown, HasRightFile, is_ending, is_refusal, is_wrong_at, is_wrong_or_untold, IsFaultless, IsOfAnother, IsSteady, IsSure, IsThen, IsUntouched, keeps_blocks, spoilt_below}
pub use Rattle.command_laws.specs.Ends.{after_audit, after_drop, after_put, after_repair, after_upgrade, AreSafe, DiskHas, EndsInOrder, FaultsHaveCauses, GivesText, GivesUnlessMemory, GivesUpPut, HoldsFile, IsAudited, IsDone, IsDropped, IsKnown, IsPacked, IsRepaired, IsScrubbed, IsUpgraded, IsWholePut, opens_store, profile_named, put_of, put_refusal, ran_to, ReadsWhole, RunsKind, SameHolds}
pub use Rattle.command_laws.specs.Instances.{audited_records, audited_store, due_records, empty_devices, ends, failed_devices, get_held, get_other, given_up_store, held_file, held_name, held_records, idle_provider, idle_providers, key_devices, key_text, no_counts, own_records, own_store, packed_bytes, packed_store, put_store, reading, ready_store, repaired_records, repaired_store, scrubbed_store, set_up_records, small_numbers, small_setup, started_records, store, upgraded_records, upgraded_store, with_sink}
pub use Rattle.command_laws.specs.Kept.{AreAppended, FailsToPut, FailsToRepair, FailsToScrub, InitImages, IsAfter, KeepsImages, LeavesImages, LosesFile, LosesRepair, LosesScrub, opens_rows, SameFetches, stores_blocks}
pub use Rattle.command_laws.specs.Opened.{IsInit, IsKeyed, IsListed}
pub use Rattle.command_laws.specs.Pieces.{AreBetween, AreCalls, AreReplaced, begin_of, Call, IsCall, IsChain, IsLater, IsSpelledCommand, IsStore, last_seen, moment, ReplacesHeld, unopened_status}
