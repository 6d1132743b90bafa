-- The words in which this crate is proved, passed on from one place. Declares nothing.
pub use Rattle.std.proofs.Common.{ap, arith, cond, drop, false, get_or, inl, inr, length, List, map, None, Option, refl, replicate, Some, subst, suc, sym, take, true, zero, ℕ, [], ◌%◌, ◌&&◌, ◌*◌, ◌++◌, ◌+◌, ◌-◌, ◌/◌, ◌<◌, ◌==◌, ◌∙◌, ◌∷◌, ◌≡◌, ◌≤◌, ◌⊎◌}
pub use Rattle.std.proofs.lemmas.Bool.{and_from, and_parts, cases_Bool, cases_eq, cases_lt, eq-eqb, false≢true, ltb-true}
pub use Rattle.std.proofs.lemmas.List.FromFn.{fill_by_all, length-map-range_with_len}
pub use Rattle.std.specs.Prelude.{is_some, IsTrue, nat_le, slice_index}
pub use Rattle.algebra_laws.proofs.Options.{some-not-none}
pub use Rattle.code_defs.specs.Points.{upto, values_at}
pub use Rattle.code_defs.specs.Polynomials.{is_seen, value}
pub use Rattle.column_defs.specs.Forgeries.{IsForgery}
pub use Rattle.column_defs.specs.Objects.{bytes_of_symbols, kept_by, Object, point, points, stripe_symbols, stripes, symbols_in}
unfoldable pub use Rattle.column_defs.specs.Objects.{symbol_of}
pub use Rattle.column_laws.proofs.UniqueLaws.{often_same, profile-room}
pub use Rattle.hail_field.specs.Shape.{IsShape}
pub use Rattle.machine_defs.proofs.Changes.{Append_is, Changes, IsPlain, Job_is}
pub use Rattle.machine_defs.proofs.Events.{changes}
pub use Rattle.machine_defs.proofs.JobLists.{cond_false, cond_true, found_more, found_none, found_with, found_without, number_of, same_value}
pub use Rattle.machine_defs.proofs.Numbers.{at_three, drawn_first, drawn_later, Draws, first_above, first_below, HasNumber, next_by, next_is_by, next_of_records, objects}
pub use Rattle.machine_defs.proofs.Untouched.{none_under_way, put_is_kept, run_back}
pub use Rattle.machine_defs.specs.Actions.{End, rounds_of, SyncBody, SyncGate, WriteBody, WriteGate}
pub use Rattle.machine_defs.specs.Answers.{Answer, Got, Put}
pub use Rattle.machine_defs.specs.Appends.{bytes_drawn, done_record, is_first_append, Writes}
pub use Rattle.machine_defs.specs.Events.{AreBytes, Ended, Event, IsSpelled, IsSpelledKind, Outcome, Step}
pub use Rattle.machine_defs.specs.Given.{answers_given, blocks_given}
pub use Rattle.machine_defs.specs.Halves.{at_begin, EndsGet, EndsRight, FirstHalf, FirstHalfHolds, IsRightGet, KeepsFirstHalf}
pub use Rattle.machine_defs.specs.Heard.{given_to, heard_by, heard_in, HoldsForgery}
pub use Rattle.machine_defs.specs.Jobs.{advanced, AuditJob, DropJob, GetJob, Given, Job, job_of, Kind, Pinned, PutJob, RepairJob, UpgradeJob, with_job, without_job}
pub use Rattle.machine_defs.specs.Runs.{first_moments, IsRun, Moment, now}
pub use Rattle.machine_defs.specs.Setups.{object_of, profiled, setup_or_none}
pub use Rattle.machine_defs.specs.States.{Alone, Append, AreFirst, Doubt, file_in, file_object, IsStart, State}
unfoldable pub use Rattle.machine_defs.specs.States.{setup_in}
pub use Rattle.machine_defs.specs.Steps.{next_action}
pub use Rattle.machine_defs.specs.Survival.{EndsPut, IsKept}
pub use Rattle.record_defs.specs.Records.{AuditDone, AuditStart, Drop, InEffect, is_byte, is_in_grammar, is_master, is_setup, PutDone, PutDoneIn, PutStart, Record, RepairDone, RepairDue, Resume, SetUp, Setup, Version}
pub use Rattle.record_defs.specs.Table.{File, file_as, file_of, is_same_name, is_start_of, next_id, profile_in, setup_of, started_as, version_of}
