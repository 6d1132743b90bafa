-- The kinds of record that appends bring: those of a packed journal alone never come so.
use Rattle.machine_defs.proofs.Words.{◌≡◌, false, Bool, sym, subst, inl, inr, cases_Bool, if◌then◌else◌, Record, PutStart, PutDone, PutDoneIn, Resume, InEffect, RepairDue, version_of, next_id, Kind, PutJob, GetJob, AuditJob, Job, Event, Outcome, State, Append, Doubt, Writes, done_record, is_first_append}
use Rattle.std.proofs.Common.{ℕ, true, Some}
use Rattle.std.specs.Prelude.{◌==◌, length}
use Rattle.machine_defs.proofs.Changes.{Append_is, Doubt_is, Changes}

-- a record that an append may bring
abbrev pub IsAppended : Record → Type 0
IsAppended (Resume id audit) = ⊥
IsAppended (InEffect id size profile name) = ⊥
IsAppended (RepairDue number counts) = ⊥
IsAppended r = Unit {0}

-- what is in flight or in doubt is such a record
abbrev pub IsWritten : State → Type 0
IsWritten w = ((a : Append) → w.append ≡ Some a → IsAppended a.entry) ×
    ((d : Doubt) → w.doubt ≡ Some d → IsAppended d.entry)

done_appended : (version id size profile : ℕ) → IsAppended (done_record version id size profile)
done_appended version id size profile = by (version == 2)
  where
    by : (b : Bool) → IsAppended (if b then PutDoneIn id size profile else PutDone id size)
    by true = tt
    by false = tt

-- each record that a job writes is such a record
pub writes_appended : (w : State) (job : Job) (kind : Kind) (entry : Record) → Writes w job kind entry →
    IsAppended entry
writes_appended w job (PutJob name bytes) entry h = subst IsAppended (sym h) (by (is_first_append job))
  where
    by : (b : Bool) → IsAppended
        (if b then PutStart (next_id w.records) name else done_record (version_of w.records) job.subject
        (length bytes) job.profile)
    by true = tt
    by false = done_appended (version_of w.records) job.subject (length bytes) job.profile
writes_appended w job (GetJob name) entry h = absurd h
writes_appended w job AuditJob entry h = elim (cases_Bool (is_first_append job)) [
  | inl t ↦ subst IsAppended (sym (let g = rw t at h in g)) tt
  | inr f ↦ (let g = rw f at h in subst IsAppended (sym g.2) tt)
]
writes_appended w job kind entry h = subst IsAppended (sym h) tt

-- after an event, what is in flight or in doubt still is such a record
pub written_on : (limit moment : ℕ) (old : State) (e : Event) (r : Outcome) (new : State) →
    Changes limit moment old e r new → IsWritten old → IsWritten new
written_on limit moment old e r new X W = (
  λ a h. elim (X.append a h) [
    | Append_is.kept b was job entry rec ↦ subst IsAppended (sym entry) (W.0 b was)
    | Append_is.drew before runs next_is mine writes drawn rec ↦
        writes_appended old before before.kind a.entry writes
  ],
  λ d h. elim (X.doubt d h) [
    | Doubt_is.kept was rec ↦ W.1 d was
    | Doubt_is.gated a flight entry rec ↦ subst IsAppended (sym entry) (W.0 a flight)
    | Doubt_is.set_up s entry ↦ subst IsAppended (sym entry) tt
  ],
)
