-- The same records come on top of the journal and of the history, in the same area; what comes next over the
-- history comes next over the journal.
use Rattle.command_jobs.proofs.Words.{◌≡◌, ℕ, List, [], ◌∷◌, ◌++◌, reverse, length, Option, refl, ap, sym, ◌∙◌, append_cancel_right, Record, PutStart, AuditStart, AuditDone, RepairDone, AreAlike, done_record, chosen, due_number, Outcome, Step, Kind, PutJob, GetJob, AuditJob, RepairJob, Happens, setup_or_none, State, setup_in, IsNext, IsNextRecord, IsOpenAtRest, WalkedAt, Keeps, acts-keep, IsOnly}
use Rattle.std.proofs.lemmas.List.{append_assoc}
use Rattle.machine_defs.specs.Jobs.{Job}
use Rattle.command_jobs.proofs.Acting.{step-makes}

-- a step of the only job keeps the area, and adds the same records
pub step-keeps : (start : State) (O : IsOpenAtRest start 1) (kind : Kind) {profile : ℕ} (w : State) (job : Job) →
    WalkedAt start kind profile w job → (moment : ℕ) (r : Outcome) (new : State) →
    Happens 8 moment w (Step 1) r new → Keeps w new
step-keeps start O kind w job W moment r new h =
    (let a = step-makes start O kind w job W r new h in acts-keep w job new a.0 r a.2)

-- where the history is as before, the journal is
pub same-journal : (old new : State) → Keeps old new → new.records ≡ old.records → new.journal ≡ old.journal
same-journal old new k e = k.journal
    ∙ ap (λ rs. rs ++ old.journal) (append_cancel_right k.added [] old.records (sym k.records ∙ e))

-- the only job further on its way
abbrev pub only-further : (start : State) (kind : Kind) (own : Option ℕ) (w new : State) (next : Job) →
    IsOnly start kind own w → WalkedAt start kind (chosen (setup_in start) own) new next → Keeps w new →
    IsOnly start kind own new
only-further start kind own w new next only walked k = record {
  opened = only.opened;
  job = next;
  walked = walked;
  area = k.area ∙ only.area;
  added = k.added ++ only.added;
  journal = k.journal ∙ (ap (λ rs. k.added ++ rs) only.journal
      ∙ sym (append_assoc k.added only.added start.journal));
  records = k.records ∙ (ap (λ rs. k.added ++ rs) only.records
      ∙ sym (append_assoc k.added only.added start.records));
}

-- ---- the record that comes next

record-next : (own its before journal after now added : List Record) (next : Record) → own ≡ its →
    after ≡ added ++ before → now ≡ added ++ journal → IsNextRecord own before after next →
    IsNextRecord its journal now next
record-next own its before journal after now added next same a n h = record {
  done = h.done;
  rest = h.rest;
  parts = sym same ∙ h.parts;
  after_is = n ∙ ap (λ rs. rs ++ journal)
      (append_cancel_right added (reverse h.done) before (sym a ∙ h.after_is));
}

-- over the history a record comes next that does so over the journal
pub next-alike : (kind : Kind) (own : Option ℕ) (before journal after now added : List Record) (next : Record) →
    AreAlike journal before → after ≡ added ++ before → now ≡ added ++ journal →
    IsNext kind own before after next → IsNext kind own journal now next
next-alike (PutJob name bytes) own before journal after now added next alike a n h = record-next _ _ before
    journal after now added next (λ i. PutStart (sym alike.id i) name ∷ done_record (sym alike.version i)
    (sym alike.id i) (length bytes) (chosen (setup_or_none (sym alike.setup i)) own) ∷ []) a n h
next-alike (GetJob name) own before journal after now added next alike a n h = h
next-alike AuditJob own before journal after now added next alike a n (undecided, counts, many, h) = (
  undecided,
  counts,
  many ∙ ap (λ s. (setup_or_none s).n) (sym alike.setup),
  record-next _ _ before journal after now added next
      (λ i. AuditStart (sym alike.audit i) ∷ AuditDone (sym alike.audit i) undecided counts ∷ []) a n h,
)
next-alike RepairJob own before journal after now added next alike a n h = record-next _ _ before journal
    after now added next (λ i. RepairDone (due_number (sym alike.due i)) ∷ []) a n h
next-alike _ own before journal after now added next alike a n h = record-next _ _ before journal after now
    added next refl a n h
