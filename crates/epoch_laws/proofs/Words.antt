-- The words in which this crate is proved, passed on from one place. Declares nothing.
pub use Rattle.std.proofs.Common.{ap, append_assoc, arith, Bool, false, inl, inr, length, List, None, Option, refl, Some, subst, suc, sym, true, zero, ℕ, [], ◌++◌, ◌<◌, ◌==◌, ◌∙◌, ◌∷◌, ◌≡◌, ◌≤◌}
pub use Rattle.std.proofs.lemmas.Bool.{cases_Bool, eqb-true, false≢true, le-leb, lt-leb}
pub use Rattle.std.specs.Prelude.{is_some, IsSome, nat_le}
pub use Rattle.algebra_laws.proofs.Options.{some-not-none}
pub use Rattle.algebra_laws.specs.Lists.{In}
pub use Rattle.column_defs.specs.Columns.{columns, is_wrong_block}
pub use Rattle.effect_laws.proofs.Apart.{ends_apart}
pub use Rattle.effect_laws.proofs.Asked.{both_none, none_for, none_on, steps_none}
pub use Rattle.effect_laws.proofs.Over.{damages, over}
pub use Rattle.effect_laws.specs.Lists.{ReadsAs}
pub use Rattle.effect_laws.specs.Transcripts.{AreOver, AreOverOn, EndsApart, NoneAsksFor, TellsJob}
pub use Rattle.machine_defs.proofs.Damaged.{among_since, both_only, calm_back, first_behind, first_enough, first_fewer}
pub use Rattle.machine_defs.proofs.JobLists.{cond_false, cond_true, found_none}
pub use Rattle.machine_defs.proofs.Lone.{ended_of_kind}
pub use Rattle.machine_defs.proofs.PinFacts.{setup_same}
pub use Rattle.machine_defs.proofs.Untouched.{begun_later, none_under_way, run_back, steps_begin_none}
pub use Rattle.machine_defs.specs.Answers.{Answer, Audited, Put, Repaired}
pub use Rattle.machine_defs.specs.Began.{IsPutBegin, NoneBegan}
pub use Rattle.machine_defs.specs.Calm.{IsCalm, Mark, relies, replaced_count, since}
pub use Rattle.machine_defs.specs.Damaged.{AsksDamageOf, DamagesOnly}
pub use Rattle.machine_defs.specs.Events.{Begin, BeginScrub, Begun, Closed, Ended, Event, Outcome, put_event, Refused, Step}
pub use Rattle.machine_defs.specs.Halves.{AllTell}
pub use Rattle.machine_defs.specs.Jobs.{AuditJob, DropJob, GetJob, Job, job_of, Kind, PutJob, RepairJob, UpgradeJob}
pub use Rattle.machine_defs.specs.Runs.{first_moments, is_replaced_since, IsRun, Moment, now}
pub use Rattle.machine_defs.specs.Scrubs.{AreScrubsCalm, IsScrubCalm, mark_scrubbed, scrub_begun, scrubbed}
pub use Rattle.machine_defs.specs.States.{Alone, file_object, IsStart, Pack, Packing, Scrub, Scrubbing, setup_in, State}
pub use Rattle.machine_defs.specs.Transcripts.{Instruction, Once, RunJob, RunsToEnd}
pub use Rattle.machine_defs.specs.Untouched.{IsBeginFor, IsFree, NoneAsksOn, NoneBeganFor, NoneBeganOn, NoneRuns, NoneUnderWay, Relies, Touches}
pub use Rattle.record_defs.specs.Records.{Setup}
pub use Rattle.run_laws.specs.Stories.{GetEnds, Stored}
pub use Rattle.second_half_laws.proofs.Doubts.{setups_stay}
pub use Rattle.second_half_laws.proofs.FewDamaged.{few_before, few_calm, few_marked, few_now, few_scrubs}
pub use Rattle.second_half_laws.proofs.Finished.{exact_by_scrubs, scrub_marked}
pub use Rattle.second_half_laws.proofs.Onward.{all_tell}
pub use Rattle.second_half_laws.proofs.Scrubbing.{Scrub_goes, Scrub_is}
pub use Rattle.second_half_laws.proofs.SecondHalf.{calm_scrub, get_sharply, marked_facts, marked_scrubs, scrub_was}
pub use Rattle.second_half_laws.specs.Epochs.{moved_mark}
pub use Rattle.second_half_laws.specs.Flagging.{FindsAll, IsAudit}
pub use Rattle.second_half_laws.specs.MarkedRuns.{AreMarks, IsCalmRun, IsMarkedRun}
pub use Rattle.second_half_laws.specs.Mended.{IsMended}
pub use Rattle.epoch_laws.specs.Epochs.{AreExactBut, AreRightBut, IsSwept}
pub use Rattle.epoch_laws.specs.Told.{ByScrubs, done_by, GotBack, IsWhole, newest, oldest}
