-- The words in which this crate is proved, passed on from one place. Declares nothing.
pub use Rattle.std.proofs.Common.{ap, arith, Bool, false, inl, inr, length, List, None, Option, refl, Some, subst, sym, true, ℕ, [], ◌++◌, ◌+◌, ◌-◌, ◌<◌, ◌∙◌, ◌∷◌, ◌≡◌, ◌≤◌, ◌⊎◌}
pub use Rattle.column_defs.specs.Opened.{block_at, LosesRow}
pub use Rattle.damage_run.proofs.Run.{audited, first_run, is_run, lose, moments, repaired, starts}
pub use Rattle.damage_run.specs.Words.{Audited, IsCalmRun, IsMended, PutDone, Record, Repaired, run_of, set_up}
unfoldable pub use Rattle.damage_run.specs.Words.{actions_of}
pub use Rattle.machine_defs.proofs.Changes.{Changes, IsLone, Job_is}
pub use Rattle.machine_defs.proofs.Damaged.{first_behind}
pub use Rattle.machine_defs.proofs.Held.{All, all, contains_in, first_all, first_more}
pub use Rattle.machine_defs.proofs.JobEnds.{job_ends_so}
pub use Rattle.machine_defs.proofs.Lone.{ended_of_kind}
pub use Rattle.machine_defs.proofs.StepEnds.{event_end}
pub use Rattle.machine_defs.proofs.Untouched.{run_back}
pub use Rattle.machine_defs.specs.Actions.{Action, append_actions, Ask, ask_actions, End, Fetch, Remove, rounds_of, Store, SyncBody, SyncGate, Work, WriteBody, WriteGate}
pub use Rattle.machine_defs.specs.Answers.{Answer}
pub use Rattle.machine_defs.specs.Appends.{Moves, subject_drawn}
pub use Rattle.machine_defs.specs.Audits.{HasSums}
pub use Rattle.machine_defs.specs.Began.{NoneBegan}
pub use Rattle.machine_defs.specs.Begins.{due_number, pinned_for, refusal_of_begin, subject_at_begin}
pub use Rattle.machine_defs.specs.Calm.{Mark, relies, replaced_count}
pub use Rattle.machine_defs.specs.Events.{Begin, Begun, Closed, Ended, Event, Listed, Names, Outcome, Step}
pub use Rattle.machine_defs.specs.Given.{answer_given, block_given, blocks_given}
pub use Rattle.machine_defs.specs.JobEnds.{EndsSo}
pub use Rattle.machine_defs.specs.Jobs.{Answered, AuditJob, DropJob, GetJob, Job, job_of, Kind, Pinned, PutJob, RepairJob, UpgradeJob}
pub use Rattle.machine_defs.specs.Machine.{Happens, Lists}
pub use Rattle.machine_defs.specs.Setups.{pinned_stripes, profiled, stripes_of}
pub use Rattle.machine_defs.specs.States.{Alone, Append, IsStart, pinned_object, worked_object}
pub use Rattle.machine_defs.specs.Steps.{Acts, ActsOrWaits, Ends, holder_of, next_action, Steps, StepsJob, StepsOn, StepsOne, StepsOpen}
pub use Rattle.record_defs.specs.Table.{Due, due_of, files_of}
pub use Rattle.run_laws.proofs.FirstHalf.{runs_shape}
pub use Rattle.second_half_laws.proofs.EveryRun.{always, repair_due, worked_is}
pub use Rattle.second_half_laws.proofs.Onward.{run_onward}
pub use Rattle.second_half_laws.proofs.Places.{ask_at, asks_all, fetched_before_work}
pub use Rattle.second_half_laws.proofs.Points.{begin_of, Facts, mark_of}
pub use Rattle.second_half_laws.proofs.Readers.{rose_on, rose_since}
pub use Rattle.second_half_laws.proofs.SecondHalf.{calm_now, marked_facts, some_rose}
pub use Rattle.second_half_laws.specs.Damage.{RoseSince}
pub use Rattle.second_half_laws.specs.MarkedRuns.{IsMarkedRun}
pub use Rattle.outcome_laws.specs.RunEnds.{EndsAudit, EndsRepair, NoneRose}
