-- The words in which this crate is proved, passed on from one place. Declares nothing.
pub use Rattle.std.proofs.Common.{add-one, ap, arith, Bool, drop, Err, false, inl, inr, length, List, map, min, None, Ok, Option, refl, replicate, Result, reverse, rules, Some, subst, suc, sym, take, true, zero, ℕ, [], ◌&&◌, ◌*◌, ◌++◌, ◌+◌, ◌-◌, ◌<◌, ◌∙◌, ◌∷◌, ◌≡◌, ◌≤◌, ◌⊎◌}
pub use Rattle.std.proofs.Math.Nat.{le-div_iff_mul-le, mul-le-mul_right}
pub use Rattle.std.proofs.Math.Seq.{take-append-add, take-append_seam, take-length}
pub use Rattle.std.proofs.lemmas.Bool.{and_parts, cases_Bool, cases_lt, eq-eqb, eqb-true, false≢true, lt-ltb, ltb-true}
pub use Rattle.std.proofs.lemmas.List.{append_cancel_right, drop-append-le, drop-drop, drop-map, drop-take, length-append, length-drop, length-map, length-replicate, length-reverse, length-take, length-take-le, map-append, take-append-drop, take-append-le, take-map, take-take, take_all}
pub use Rattle.std.specs.List.{All, AllZip, list_all}
pub use Rattle.std.specs.Option.{option_map}
pub use Rattle.std.specs.Prelude.{IfErr, IfSome, is_some, IsTrue, nat_lt, slice_get}
pub use Rattle.algebra_laws.proofs.Options.{some-not-none}
pub use Rattle.command_defs.specs.Commands.{ReadsWithin}
pub use Rattle.command_defs.specs.GivenUp.{PartLeft, PartRan, PartRuns, put_stripe}
pub use Rattle.command_defs.specs.JobRuns.{AreSteps, GoesOnTo}
pub use Rattle.command_defs.specs.Jobs.{IsNext, IsNextRecord, LeavesBy, LeftAlone, outside, RanAlone, RunsAlone, SameAround, SameOutside, with_next}
pub use Rattle.command_defs.specs.Opens.{setup_in_effect}
pub use Rattle.command_defs.specs.Puts.{MayHaveEnd, put_done, put_records, PutIsCut, PutLeaves}
pub use Rattle.command_defs.specs.Ran.{IsCut, Ran, ran_alone}
pub use Rattle.command_defs.specs.Seen.{nobody, provider_at, ReadsAtMost, ReadsFront, Seen}
pub use Rattle.device_defs.proofs.Lasting.{image-firm, reads-firm, rose-before}
pub use Rattle.device_defs.specs.Cells.{Cells, firm, loose, reads, reads as bytes_read}
pub use Rattle.device_defs.specs.Disks.{spliced, synced, Torn, written}
pub use Rattle.device_defs.specs.Faults.{Rose}
pub use Rattle.device_defs.specs.Providers.{Provider}
pub use Rattle.device_defs.specs.Told.{Goes, then_told}
pub use Rattle.hail_scrub.specs.Stands.{MakesScrubStep, scrub_answer, scrub_outcome, ScrubIs, ScrubStands}
pub use Rattle.hail_scrub.specs.Views.{scrub_left, ScrubView}
pub use Rattle.hail_scrub.specs.declared.turn.ScrubAnswer.{ScrubAnswer}
pub use Rattle.job_laws.proofs.BeginRefusals.{pack-refusal-of, refusal-of}
pub use Rattle.job_laws.proofs.Keeping.{acts-keep, Keeps}
pub use Rattle.job_laws.proofs.Parts.{length-stores, unwritten}
pub use Rattle.job_laws.proofs.Runs.{walk-on, WalkedOn}
pub use Rattle.journal_core.specs.FourMoves.{MayBeTorn, moved_on}
pub use Rattle.journal_core.specs.Moves.{cells_after, IsAfterMoves, IsWrite, MayTear, SameFrom}
pub use Rattle.journal_pack.specs.Packs.{moves_of, text_of, to_of, WritesText}
pub use Rattle.lone_laws.proofs.Walk.{found, none-alone, opened-sound, runs, walk-begin, Wrote, wrote}
pub use Rattle.lone_laws.specs.Walked.{first_record, IsSecondRecord, MayName, RecordsAre, WalkedAt}
pub use Rattle.machine_defs.proofs.JobLists.{cond_false, cond_true, same_value}
pub use Rattle.machine_defs.specs.Actions.{Action, actions_left, actions_of, append_actions, appends_left, Ask, End, Fetch, Plan, Remove, remove_actions, Store, store_actions, SyncBody, SyncGate, Work, WriteBody, WriteGate}
pub use Rattle.machine_defs.specs.Alone.{alone_refusal, new_scrub, pack_refusal}
pub use Rattle.machine_defs.specs.Appends.{done_record, Moves, Writes}
pub use Rattle.machine_defs.specs.Begins.{beginning, BeginsAt, chosen, due_number}
pub use Rattle.machine_defs.specs.Events.{AreBytes, BeginScrub, Begun, IsSpelledKind, More, Outcome, Step}
pub use Rattle.machine_defs.specs.Heard.{Entry, heard_by}
pub use Rattle.machine_defs.specs.Jobs.{AuditJob, DropJob, GetJob, job_of, Kind, PutJob, RepairJob, UpgradeJob}
pub use Rattle.machine_defs.specs.Machine.{Happens}
pub use Rattle.machine_defs.specs.Runs.{Moment, now}
pub use Rattle.machine_defs.specs.Setups.{object_of, profiled, setup_or_none, stripes_of}
pub use Rattle.machine_defs.specs.Stands.{StandsForState}
pub use Rattle.machine_defs.specs.States.{Alone, Append, Scrub, Scrub as MachineScrub, State}
unfoldable pub use Rattle.machine_defs.specs.States.{setup_in}
pub use Rattle.machine_defs.specs.Steps.{ActsOrWaits, holder_of, is_idle_drop, next_action, Steps, StepsJob, StepsOn, StepsOne, StepsOpen}
pub use Rattle.opening_defs.specs.Journals.{IsRead, IsResynced, journal_read}
pub use Rattle.opening_defs.specs.Opened.{AreHanded, IsJustOpened, IsOpenAtRest}
pub use Rattle.provider_model.specs.Seen.{provider_seen}
pub use Rattle.record_codec.specs.Entries.{with_master}
pub use Rattle.record_defs.specs.Areas.{A, Area, B, base_of, end_in, entries, magic_front, other_area}
pub use Rattle.record_defs.specs.Packed.{AreAlike, packed}
pub use Rattle.record_defs.specs.Records.{AuditDone, AuditStart, is_byte, is_in_grammar, largest_file, PutDone, PutDoneIn, PutStart, Record, RepairDone}
pub use Rattle.record_defs.specs.Table.{next_audit, next_id, version_of}
pub use Rattle.state_laws.proofs.Given.{holder, valid-shape}
pub use Rattle.state_laws.proofs.Orders.{appends-order, put-first, put-list}
pub use Rattle.state_laws.proofs.Written.{body-left, setup-valid, small-sums}
pub use Rattle.state_laws.specs.Orders.{moves_before, moves_made}
pub use Rattle.vault.specs.Calls.{EndsCells, EndsPackCells, moves_before_next, MovesCells, packed_on}
pub use Rattle.vault.specs.Devices.{devices_seen, records_in_flight}
pub use Rattle.vault.specs.Outcomes.{machine_answer, outcome_of}
pub use Rattle.vault.specs.Packing.{IsPackOf, MakesPackStep, pack_answer, pack_begun, PacksOver, StandsPacking}
pub use Rattle.vault.specs.Seen.{closed_gate_of, coming_of, left_of, master_of, next_job_of, provider_count, table_of, vault_entry, vault_setup}
pub use Rattle.vault.specs.Stands.{HoldsOver, MakesBegin, MakesStep, Stands, StandsBeside}
pub use Rattle.vault.specs.Streams.{FitsKind, FitsPiece, IsPiece, IsStreamless, KeepsTold, stripe_by, stripe_of, told_of, wants_of}
pub use Rattle.vault.specs.declared.packing.PackAnswer.{PackAnswer}
pub use Rattle.vault.specs.declared.packing.PackJob.{PackJob}
pub use Rattle.vault.specs.declared.turn.Turn.{Turn}
pub use Rattle.vault.specs.declared.vault.Vault.{Vault}
pub use Rattle.vault_core.specs.Carried.{ComesNext, CoreIs, IsJobOf, IsWriting, refusal_of, seen_plan, shown}
pub use Rattle.vault_core.specs.Coming.{calls_disk, Coming, entry_in, is_move, next_in}
pub use Rattle.vault_core.specs.Streams.{stripe_size}
pub use Rattle.vault_core.specs.View.{CoreJob, CoreView, job_in, told_by, wanted_at, wanted_by, wants_in}
pub use Rattle.vault_core.specs.declared.wish.BeginFault.{BeginFault}
pub use Rattle.vault_open.specs.Devices.{Devices, devices}
pub use Rattle.command_jobs.specs.Ends.{EndsOver, IsRefusedOver, IsSeenAfter, IsSeenBefore}
pub use Rattle.command_jobs.specs.Going.{AdvancesTo, EndsEarly, GoesToEnd, IsBehind, IsEarly, IsOnly, IsUnderWay, OnWay, SameUpTo}
pub use Rattle.command_jobs.specs.Kinds.{kind_of}
pub use Rattle.command_jobs.specs.Opened.{AreRecords, IsFreshOver, IsUnopened, LiesInStore, unopened_of}
pub use Rattle.command_jobs.specs.Packs.{FillsGap, IsPackRefused, KeepsAround, PackEndsOver, StaysAround}
pub use Rattle.command_jobs.specs.Scrubs.{ScrubEndsOver, SweepsToEnd}
pub use Rattle.command_jobs.specs.Streams.{IsBegun, IsStripe, IsUnbegunOver, PutEnds, PutStops, StreamEnds, StreamsOver, StreamsTo, StreamStops}
