-- What holds in every run of the record in doubt, of the begins of audits, and of moments before which no put
-- began that works.
use Rattle.second_half_laws.proofs.Words.{true, ◌⊎◌, refl, ap, sym, subst, ◌∙◌, inl, inr, arith, is_some, cases_Bool, cases_eq, cases_lt, and_right, and_from, eqb-true, eq-eqb, ne_eqb, false≢true, In, some-not-none, columns, exceeds, Record, Setup, SetUp, AuditDone, RepairDone, File, Due, setup_of, next_id, next_audit, started_as, file_of, due_of, Kind, PutJob, GetJob, DropJob, AuditJob, RepairJob, UpgradeJob, Pinned, Job, job_of, advanced, WriteBody, WriteGate, SyncGate, Store, Remove, profiled, stripes_of, State, Append, Doubt, Scrub, Scrubbing, IsStart, setup_in, object_in, worked_object, file_in, is_put_or_check, refusal_of_begin, pinned_file, beginning, pinned_profile, Writes, done_record, is_first_append, audits_drawn, next_action, block_to_store, Moment, now, is_replaced_since, newest, came, IsRun, settled_by, mark_after, since, begun_of, told_block, cond_true, cond_false, same_value, number_of, found_none, IsPlain, IsGated, Job_is, Append_is, Records_is, Block_is, Changes, some_told, changes, objects, audits, HasNumber, next_of_records, at_three, first_above, first_below, drawn_later, put_ended, done-ended, by_version, not_busy, right_false, HasPin, is_fair, store_place, any_aim, Wrote, pinned_stands, Pins_is, pins_is, stands_quiet, setup_same, All, all, store_kinds, remove_kinds, IsEndOfPut, PrecedesPuts}
use Rattle.std.proofs.Common.{◌≡◌, ℕ, suc, ◌+◌, ◌≤◌, ◌<◌, ◌==◌, false, List, [], ◌∷◌, length, Option, Some, None}
use Rattle.machine_defs.proofs.Numbers as num
use Rattle.machine_defs.proofs.Pins.{Stands}
use Rattle.machine_defs.proofs.RecordFacts.{AreSound}
use Rattle.machine_defs.proofs.PutProfiles as prof
use Rattle.run_laws.proofs.InEffect as eff
use Rattle.second_half_laws.proofs.Places.{stored_before_gate}
use Rattle.second_half_laws.proofs.Turns.{Stay_is, Doubt_now, Audits_are, Turns, turns}
use Rattle.second_half_laws.proofs.Scrubbing.{Scrub_is, scrub_is}
use Rattle.second_half_laws.proofs.Blocks.{since_more, since_now, ends_ended, same_profile, file_done, setup_left, up_before, up_more, due_done, no_first_due}
use Rattle.second_half_laws.proofs.MovePlaces.{write_gate_place, gate_next, next_same}

-- the put whose record is in doubt
pub record PutHeld (w : State) (id bound : ℕ) (maker : Option Job) : Type 0 where
  pub below : id < next_id w.records
  pub up : is_some (setup_of w.records) ≡ true
  pub name : List ℕ
  pub started : started_as w.records id ≡ Some name
  pub early : begun_of maker ≤ bound

-- a running job that made a record which is in doubt, and whose next move is the fourth
pub record AtGate (w : State) (d : Doubt) : Type 0 where
  pub job : Job
  pub maker : d.maker ≡ Some job
  pub runs : job_of w.jobs job.number ≡ Some job
  pub next : next_action w job ≡ Some SyncGate

-- what holds in every run
pub record AlwaysAt (start : State) (ms : List Moment) (w : State) : Type 0 where
  pub gated : IsGated w
  pub setup_doubt : (d : Doubt) (s : Setup) → w.doubt ≡ Some d → d.entry ≡ SetUp s → setup_of w.records ≡ None
  pub profiles : prof.Facts start ms
  pub put_held : (d : Doubt) (id : ℕ) → w.doubt ≡ Some d → put_ended d.entry ≡ Some id →
      PutHeld w id (length ms) d.maker
  pub put_columns : (d : Doubt) (id size profile i s : ℕ) (b : Option (List ℕ)) → w.doubt ≡ Some d →
      IsEndOfPut w.records d.entry id size profile → i < (setup_in w).n →
      s < stripes_of (profiled (setup_in w) profile) (length (w.bytes id)) →
      is_replaced_since (begun_of d.maker) i ms ≡ false → told_block w i id s ≡ Some b →
      b ≡ Some (columns (object_in w profile id) (w.bytes id) i s)
  pub put_own : (d : Doubt) (id size profile k : ℕ) (x : Job) (name bytes : List ℕ) → w.doubt ≡ Some d →
      IsEndOfPut w.records d.entry id size profile → job_of w.jobs k ≡ Some x → x.kind ≡ PutJob name bytes →
      4 ≤ x.place → x.subject ≡ id → x.profile ≡ profile
  pub lone_open : (scrub : Scrub) → w.alone ≡ Some (Scrubbing scrub) → w.is_open ≡ true
  pub lone_sure : (scrub : Scrub) (d : Doubt) → w.alone ≡ Some (Scrubbing scrub) → w.doubt ≡ Some d → ⊥
  pub doubt_put : (d : Doubt) (job : Job) (id : ℕ) → w.doubt ≡ Some d → d.maker ≡ Some job →
      put_ended d.entry ≡ Some id → (name : List ℕ) × (bytes : List ℕ) × (job.kind ≡ PutJob name bytes)
  pub doubt_runs : (d : Doubt) → w.is_open ≡ true → w.is_barred ≡ false → w.doubt ≡ Some d → AtGate w d
  pub audit_entry : (a : Append) (j : Job) (number u : ℕ) (c : List ℕ) → w.append ≡ Some a →
      job_of w.jobs a.job ≡ Some j → j.kind ≡ AuditJob → a.entry ≡ AuditDone number u c →
      (number ≡ j.subject) × (4 ≤ j.place)
  pub repair_entry : (a : Append) (j : Job) (number : ℕ) → w.append ≡ Some a → job_of w.jobs a.job ≡ Some j →
      j.kind ≡ RepairJob → a.entry ≡ RepairDone number → number ≡ j.subject
  pub audit_fresh : (a : Append) (j : Job) → w.append ≡ Some a → job_of w.jobs a.job ≡ Some j →
      j.kind ≡ AuditJob → j.place < 4 → w.audits j.subject ≡ j.begun
  pub audit_kept : (k : ℕ) (j : Job) → job_of w.jobs k ≡ Some j → j.kind ≡ AuditJob → 4 ≤ j.place →
      w.audits j.subject ≡ j.begun
  pub pinned : (k : ℕ) (j : Job) (f : Pinned) → job_of w.jobs k ≡ Some j → In f j.pinned →
      f.bytes ≡ w.bytes f.id
  pub one_pin : (k l : ℕ) (j i : Job) (f g : Pinned) → job_of w.jobs k ≡ Some j → job_of w.jobs l ≡ Some i →
      In f j.pinned → In g i.pinned → f.id ≡ g.id → f.profile ≡ g.profile
  pub pin_file : (k : ℕ) (j : Job) (f : Pinned) (q : List ℕ) (g : File) → job_of w.jobs k ≡ Some j →
      In f j.pinned → file_in w q ≡ Some g → f.id ≡ g.id → f.profile ≡ g.profile
  pub audit : (k : ℕ) (j : Job) → job_of w.jobs k ≡ Some j → j.kind ≡ AuditJob → PrecedesPuts start ms j.begun
  pub audit_doubt : (d : Doubt) (number u : ℕ) (c : List ℕ) → w.doubt ≡ Some d →
      d.entry ≡ AuditDone number u c →
      (number < next_audit w.records) × PrecedesPuts start ms (w.audits number)
  pub due : (u : Due) → due_of w.records ≡ Some u →
      (u.number < next_audit w.records) × PrecedesPuts start ms (w.audits u.number)
  pub repair : (k : ℕ) (j : Job) → job_of w.jobs k ≡ Some j → j.kind ≡ RepairJob →
      (j.subject < next_audit w.records) × PrecedesPuts start ms (w.audits j.subject)
  pub repair_doubt : (d : Doubt) (number : ℕ) → w.doubt ≡ Some d → d.entry ≡ RepairDone number →
      (number < next_audit w.records) × PrecedesPuts start ms (w.audits number)
  pub mark : PrecedesPuts start ms (since start ms)

abbrev pub Always : State → List Moment → Type 0
Always start ms = AlwaysAt start ms (now start ms)

-- ---- what records are of which job

-- a record that ends a put is no other one
ends_other : (v id size profile : ℕ) (r : Record) → done_record v id size profile ≡ r → put_ended r ≡ None → ⊥
ends_other v id size profile r e none = cc (done-ended v id size profile)

-- a put's end is written by a put that has its number
wrote_put : (job : Job) (kind : Kind) (entry : Record) (id : ℕ) → Wrote job kind entry →
    put_ended entry ≡ Some id → (name : List ℕ) × (bytes : List ℕ) × (kind ≡ PutJob name bytes) ×
    (4 ≤ job.place) × (job.subject ≡ id)
wrote_put job (PutJob name bytes) entry id (inr h) e = (let f : Some job.subject ≡ Some id =
    cc (done-ended h.1.0 job.subject (length bytes) job.profile) in
    (name, bytes, refl, h.0, (let g : job.subject ≡ id = cc in g)))
wrote_put job (GetJob name) entry id h e = absurd h
wrote_put job (PutJob name bytes) entry id (inl h) e = (let f : None ≡ Some id = cc in cc)
wrote_put job AuditJob entry id (inl h) e = (let f : None ≡ Some id = cc in cc)
wrote_put job AuditJob entry id (inr h) e = (let f : None ≡ Some id = cc in cc)
wrote_put job kind entry id h e = (let f : None ≡ Some id = cc in cc)

-- only an audit writes an audit's end, only a repair a repair's, and no job a setup
abbrev IsOf : Kind → Record → Type 0
IsOf kind (AuditDone number u c) = kind ≡ AuditJob
IsOf kind (RepairDone number) = kind ≡ RepairJob
IsOf kind (SetUp s) = ⊥
IsOf kind entry = Unit {0}

wrote_of : (job : Job) (kind : Kind) (entry r : Record) → Wrote job kind entry → entry ≡ r → IsOf kind r
wrote_of job (PutJob name bytes) entry r (inl h) e = subst (IsOf (PutJob name bytes)) (sym h.1 ∙ e) tt
wrote_of job (PutJob name bytes) entry r (inr h) e = subst (IsOf (PutJob name bytes)) (sym h.1.1 ∙ e)
    (by_version h.1.0 job.subject (length bytes) job.profile (IsOf (PutJob name bytes)) tt tt)
wrote_of job (GetJob name) entry r h e = absurd h
wrote_of job (DropJob name) entry r h e = subst (IsOf (DropJob name)) (sym h ∙ e) tt
wrote_of job AuditJob entry r (inl h) e = subst (IsOf AuditJob) (sym h.1 ∙ e) tt
wrote_of job AuditJob entry r (inr h) e = subst (IsOf AuditJob) (sym h.3 ∙ e) refl
wrote_of job RepairJob entry r h e = subst (IsOf RepairJob) (sym h.1 ∙ e) refl
wrote_of job UpgradeJob entry r h e = subst (IsOf UpgradeJob) (sym h ∙ e) tt

-- files in effect that have one number are one
pub stands_once : (w : State) → AreSound w.records → (f g : Pinned) → Stands w f → Stands w g → f.id ≡ g.id →
    f ≡ g
stands_once w sound f g s t e = (let name = sound.one_name s.name t.name s.file t.file s.in_effect t.in_effect
    cc in
    let same : s.file ≡ t.file = cc in cc)

-- the profile of a number among files of which it has one
pub profile_of : (other : ℕ) (ps : List Pinned) (f : Pinned) → In f ps →
    ((g : Pinned) → In g ps → g.id ≡ f.id → g.profile ≡ f.profile) → pinned_profile other ps f.id ≡ f.profile
profile_of other [] f h one = absurd h
profile_of other (p ∷ ps) f h one = elim (cases_Bool (p.id == f.id)) [
  | inl t ↦ cond_true _ _ _ t ∙ one p (inl refl) (eqb-true p.id f.id t)
  | inr o ↦ cond_false _ _ _ o ∙ profile_of other ps f (elim h [
    | inl e ↦ absurd (false≢true (sym o ∙ eq-eqb p.id f.id (cc)))
    | inr i ↦ i
  ]) (λ g i. one g (inr i))
]

-- the object of a number among those that a job works on is that of its file there
pub worked_is : (start : State) (ms : List Moment) → Always start ms → (x : Job) (o : ℕ) →
    job_of (now start ms).jobs x.number ≡ Some x → (pin : HasPin x o) →
    worked_object (now start ms) x o ≡ object_in (now start ms) pin.file.profile o
worked_is start ms E x o runs pin = cc (profile_of (setup_in (now start ms)).profile x.pinned pin.file
    pin.pinned (λ g i e. E.one_pin x.number x.number x x g pin.file runs runs i pin.pinned e))

-- a number that is not drawn keeps its begin
drawn_other : (w : State) (job : Job) (kind : Kind) (number : ℕ) → (number ≡ next_audit w.records → ⊥) →
    audits_drawn w job kind number ≡ w.audits number
drawn_other w job AuditJob number other = cond_false _ _ _ (and_right (is_first_append job)
    (number == next_audit w.records) (ne_eqb number (next_audit w.records) other))
drawn_other w job kind number other = refl

-- one that is drawn has that of its audit
drawn_begun : (w : State) (job : Job) (kind : Kind) (number : ℕ) → kind ≡ AuditJob →
    is_first_append job ≡ true → number ≡ next_audit w.records → audits_drawn w job kind number ≡ job.begun
drawn_begun w job kind number is first e =
    cc (cond_true _ _ _ (and_from _ _ first (eq-eqb number (next_audit w.records) e)))

-- what an audit's or a repair's append writes
audit_writes : (w : State) (job : Job) (kind : Kind) (entry : Record) (number u : ℕ) (c : List ℕ) →
    kind ≡ AuditJob → Writes w job kind entry → entry ≡ AuditDone number u c →
    (number ≡ job.subject) × (4 ≤ job.place)
audit_writes w job kind entry number u c is writes e = go (rw is at writes)
  where
    go : Writes w job AuditJob entry → (number ≡ job.subject) × (4 ≤ job.place)
    go h = elim (cases_lt job.place 4) [
      | inl l ↦ absurd (let g = rw (first_below job l) at h in cc (sym g ∙ e))
      | inr l ↦ (let g = rw (first_above job l) at h in let f = sym g.2 ∙ e in ((cc), l))
    ]

repair_writes : (w : State) (job : Job) (kind : Kind) (entry : Record) (number : ℕ) → kind ≡ RepairJob →
    Writes w job kind entry → entry ≡ RepairDone number → number ≡ job.subject
repair_writes w job kind entry number is writes e =
    (let f = sym (subst (λ kd. Writes w job kd entry) is writes) ∙ e in cc)

-- ---- begins of audits and repairs

not_barred : (limit : ℕ) (w : State) (kind : Kind) (wish : Option ℕ) →
    refusal_of_begin limit w kind wish ≡ None → w.is_barred ≡ false
not_barred limit w kind wish h = elim (cases_Bool w.is_barred) [
  | inl t ↦ absurd (let e = rw t at h in cc e)
  | inr o ↦ o
]

-- no put runs where an audit begins
no_put : (limit : ℕ) (w : State) (wish : Option ℕ) → refusal_of_begin limit w AuditJob wish ≡ None →
    (k : ℕ) (j : Job) (name bytes : List ℕ) → job_of w.jobs k ≡ Some j → j.kind ≡ PutJob name bytes → ⊥
no_put limit w wish none k j name bytes runs kind = (let f = any_aim is_put_or_check w.jobs k j runs
    (right_false _ _ (right_false _ _ (not_busy limit w AuditJob wish none))) in false≢true (cc))

-- a repair is due where one begins
pub repair_due : (limit : ℕ) (w : State) (wish : Option ℕ) (o : Option Due) → due_of w.records ≡ o →
    refusal_of_begin limit w RepairJob wish ≡ None → (u : Due) × (due_of w.records ≡ Some u)
repair_due limit w wish (Some u) is h = (u, is)
repair_due limit w wish None is h =
    absurd (let e = rw (not_barred limit w RepairJob wish h, not_busy limit w RepairJob wish h, is) at h in
    cc e)

-- the number of a file in effect has been drawn
pub file_below : {start : State} {ms : List Moment} (A : All start ms) (q : List ℕ) (f : File) →
    file_in (now start ms) q ≡ Some f → f.id < next_id (now start ms).records
file_below A q f h = (A.pins.sound.file q f h).0

-- the begin of an audit number that is drawn does not change
pub audits_below : {old new : State} (T : Turns old new) (number : ℕ) → number < next_audit old.records →
    new.audits number ≡ old.audits number
audits_below {old} {new} T number l = elim T.audits [
  | Audits_are.undrawn e no_new ↦ ap (λ f. f number) e
  | Audits_are.drew x runs free mine e ↦ cc (drawn_other old x x.kind number (λ z. omega (arith, l, z)))
]

-- what holds before an event, and what it changes
pub record Around (limit : ℕ) (start : State) (m : Moment) (ms : List Moment) : Type 0 where
  pub clean : IsStart start
  pub run : IsRun limit start ms
  pub facts : All start ms
  pub numbers : num.Facts audits start ms
  pub files : eff.Facts (now start ms)
  pub kept : Always start ms
  pub changed : Changes limit (length ms) (now start ms) m.event m.outcome m.state
  pub turned : Turns (now start ms) m.state

around_by : (limit : ℕ) (start : State) (m : Moment) (ms : List Moment) → IsStart start →
    IsRun limit start (m ∷ ms) → Always start ms → Around limit start m ms
around_by limit start m ms clean run E = (let A = all limit start clean ms run.2 in
    record {
      clean = clean;
      run = run.2;
      facts = A;
      numbers = num.facts audits limit start clean ms run.2;
      files = eff.facts limit start ms clean run.2;
      kept = E;
      changed = changes limit (length ms) (now start ms) m.event m.outcome m.state A.numbers.idle run.1;
      turned = turns (now start ms) limit (length ms) m.event m.outcome m.state run.1;
    })

module _ {limit : ℕ} {start : State} {m : Moment} {ms : List Moment} (N : Around limit start m ms) where
  open N use {facts as A, numbers as U, files as I, kept as E, changed as X, turned as T}

  -- the state after these moments
  abbrev w : State
  w = now start ms

  -- ---- what comes into effect

  pub data Effect_is : Type 0 where
    nothing : m.state.records ≡ w.records → Effect_is
    entered : (d : Doubt) → w.doubt ≡ Some d → m.state.records ≡ d.entry ∷ w.records → Effect_is
    set_up : (s : Setup) (rs : List Record) → m.state.records ≡ SetUp s ∷ rs → setup_of rs ≡ None →
        (rs ≡ w.records) ⊎ ((d : Doubt) × (w.doubt ≡ Some d) × (rs ≡ d.entry ∷ w.records)) → Effect_is

  -- nothing comes into effect by an event, or the record that was in doubt, or a setup
  pub effect : Effect_is
  effect = elim X.records [
    | Records_is.same rec ↦ nothing rec
    | Records_is.finished x a runs next_is flight mine moves rec ↦ (let g = E.gated a flight moves in
        entered g.0 g.1 (cc))
    | Records_is.settled d in_doubt rec ↦ entered d in_doubt rec
    | Records_is.set_up s none rec ↦ set_up s w.records rec none (inl refl)
    | Records_is.settled_set_up s d in_doubt none rec ↦
        set_up s (d.entry ∷ w.records) rec none (inr (d, in_doubt, refl))
  ]

  held_up : (q : List ℕ) (f : File) → file_in w q ≡ Some f → is_some (setup_of w.records) ≡ true
  held_up q f h = (I.files q f h).up

  entry_up : (d : Doubt) (q : List ℕ) (f : File) → w.doubt ≡ Some d → file_of (d.entry ∷ w.records) q ≡ Some f
      → is_some (setup_of w.records) ≡ true
  entry_up d q f at h = up_before d.entry w.records q f (A.numbers.written.1 d at) h (held_up q f)
      (λ e. (E.put_held d f.id at e).up)

  entry_setup : (d : Doubt) (q : List ℕ) (f : File) → w.doubt ≡ Some d →
      file_of (d.entry ∷ w.records) q ≡ Some f → setup_of (d.entry ∷ w.records) ≡ setup_of w.records
  entry_setup d q f at h = setup_left d.entry w.records (λ s e. false≢true
      (cc (E.setup_doubt d s at e, entry_up d q f at h)))

  -- how a file came into effect
  pub record Comes (q : List ℕ) (f : File) : Type 0 where
    pub setup : setup_of m.state.records ≡ setup_of w.records
    pub how : (file_in w q ≡ Some f) ⊎ ((d : Doubt) × (w.doubt ≡ Some d) × IsEndOfPut w.records d.entry f.id
        f.size f.profile)

  -- where no setup is in effect no file is, also with the record in doubt added
  pub no_file : (rs : List Record) (q : List ℕ) (f : File) → setup_of rs ≡ None →
      (rs ≡ w.records) ⊎ ((d : Doubt) × (w.doubt ≡ Some d) × (rs ≡ d.entry ∷ w.records)) →
      file_of rs q ≡ Some f → ⊥
  no_file rs q f none (inl e) h = false≢true (sym (cc) ∙ held_up q f (cc))
  no_file rs q f none (inr (d, at, e)) h = up_more d.entry w.records (entry_up d q f at (cc)) (cc)

  -- a file in effect after an event was so before, or is that of a put whose record was in doubt
  pub comes : (q : List ℕ) (f : File) → file_in m.state q ≡ Some f → Comes q f
  comes q f h = elim effect [
    | nothing rec ↦ record { setup = ap setup_of rec; how = inl (cc) }
    | entered d at rec ↦ (let g : file_of (d.entry ∷ w.records) q ≡ Some f = cc in
        record {
          setup = cc (entry_setup d q f at g);
          how = elim (file_done d.entry w.records q f (A.numbers.written.1 d at) g) [
            | inl was ↦ inl was
            | inr e ↦ inr (d, at, e)
          ];
        })
    | set_up s rs rec none how ↦ absurd (no_file rs q f none how (cc))
  ]

  -- the bounds of a block are as before
  pub bounds : (p o i s : ℕ) → setup_in m.state ≡ setup_in w → o < next_id w.records →
      i < (setup_in m.state).n → s < stripes_of (profiled (setup_in m.state) p) (length (m.state.bytes o)) →
      (i < (setup_in w).n) × (s < stripes_of (profiled (setup_in w) p) (length (w.bytes o)))
  bounds p o i s setup below l k = (
    (rw setup at l),
    subst (λ t. s < stripes_of (profiled t p) (length (w.bytes o))) setup (rw (X.bytes o below) at k),
  )

  -- no running job takes away the object of a file in effect
  pub no_remover : (q : List ℕ) (f : File) → file_in w q ≡ Some f → (x : Job) →
      job_of w.jobs x.number ≡ Some x → In f.id x.older → ⊥
  no_remover q f h x runs o = A.pins.older_out x.number x f.id q f runs o h refl

  -- a put whose record is in doubt after an event began as before
  gated_put : (job : Job) (a : Append) (id : ℕ) → job_of w.jobs job.number ≡ Some job → w.append ≡ Some a →
      a.job ≡ job.number → put_ended a.entry ≡ Some id →
      (name : List ℕ) × (bytes : List ℕ) × (job.kind ≡ PutJob name bytes) × (4 ≤ job.place)
      × (job.subject ≡ id)
  gated_put job a id runs flight mine e = wrote_put job job.kind a.entry id (A.pins.wrote a job flight (cc)) e

  -- ---- moments before which no put began that works

  -- a moment before which no put began that works stays one
  pub before_on : (from : ℕ) → PrecedesPuts start ms from → PrecedesPuts start (m ∷ ms) from
  before_on from P = record { early = (let l = P.early in omega arith); puts = puts_on; doubts = doubts_on }
    where
      puts_on : (k : ℕ) (j : Job) (name bytes : List ℕ) → job_of m.state.jobs k ≡ Some j →
          j.kind ≡ PutJob name bytes → from ≤ j.begun
      puts_on k j name bytes h kind = elim (pins_is limit start m ms A.numbers A.pins X k j h) [
        | Pins_is.had x runs pinned kind_x begun g ↦
            (let l = P.puts k x name bytes runs (sym kind_x ∙ kind) in omega arith)
        | Pins_is.new_one kd wish is k_is allowed rec ↦
            (let l = P.early in let e : j.begun ≡ length ms = cc in omega arith)
      ]

      doubts_on : (d : Doubt) (version id size profile : ℕ) → m.state.doubt ≡ Some d →
          d.entry ≡ done_record version id size profile → from ≤ begun_of d.maker
      doubts_on d version id size profile h e = elim (T.doubt d h) [
        | Doubt_now.kept was rec ↦ P.doubts d version id size profile was e
        | Doubt_now.gated job a runs next_is flight mine entry_is maker rec on ↦
            (let g = gated_put job a id runs flight mine (cc (done-ended version id size profile)) in
            subst (λ o. from ≤ begun_of o) (sym maker) (P.puts job.number job g.0 g.1 runs
            g.2))
        | Doubt_now.set_up s entry_is bare none closed ↦
            absurd (ends_other version id size profile (SetUp s) (sym e ∙ entry_is) refl)
      ]

  -- ---- the record in doubt

  -- while a job runs, a setup is in effect
  pub runs_up : (k : ℕ) (j : Job) → job_of w.jobs k ≡ Some j → is_some (setup_of w.records) ≡ true
  runs_up k j runs = elim (cases_Bool w.is_open) [
    | inl t ↦ I.opened t
    | inr f ↦ absurd (found_none w.jobs k j (A.numbers.idle.idle f).0 runs)
  ]

  put_number : (job : Job) (name bytes : List ℕ) → job.kind ≡ PutJob name bytes → 4 ≤ job.place →
      HasNumber objects job
  put_number job name bytes kind late = (cc, late)

  put_held_step : (d : Doubt) (id : ℕ) → m.state.doubt ≡ Some d → put_ended d.entry ≡ Some id →
      PutHeld m.state id (suc (length ms)) d.maker
  put_held_step d id h e = elim (T.doubt d h) [
    | Doubt_now.kept was rec ↦ (let g = E.put_held d id was e in record {
      below = (let l = g.below in let r = ap next_id rec in omega arith);
      up = cc;
      name = g.name;
      started = cc;
      early = (let l = g.early in omega arith);
    })
    | Doubt_now.gated job a runs next_is flight mine entry_is maker rec on ↦
        by_put job a runs next_is flight mine maker rec (gated_put job a id runs flight mine (cc))
    | Doubt_now.set_up t entry_is bare none closed ↦ absurd (let z : None ≡ Some id = cc in cc)
  ]
    where
      by_put : (job : Job) (a : Append) → job_of w.jobs job.number ≡ Some job →
          next_action w job ≡ Some WriteGate → w.append ≡ Some a → a.job ≡ job.number →
          d.maker ≡ Some (advanced job) → m.state.records ≡ w.records →
          (name : List ℕ) × (bytes : List ℕ) × (job.kind ≡ PutJob name bytes) × (4 ≤ job.place)
          × (job.subject ≡ id) → PutHeld m.state id (suc (length ms)) d.maker
      by_put job a runs next_is flight mine maker rec (name, bytes, kind, late, subject) =
          (let place = write_gate_place w job name bytes kind next_is late in
          record {
            below = (let l = A.numbers.below job.number job runs (put_number job name bytes kind late) in
                let r = ap next_id rec in omega arith);
            up = cc (runs_up job.number job runs);
            name = name;
            started = cc (A.pins.started job.number job name bytes runs kind late (omega arith));
            early = subst (λ o. begun_of o ≤ suc (length ms)) (sym maker)
                (let l = A.held.begun job.number job runs in let z : job.begun ≤ suc (length ms) =
                omega arith in z);
          })

  -- a block that a put stores is the column
  put_column : (x : Job) (name bytes : List ℕ) (i o s : ℕ) (b : Option (List ℕ)) →
      job_of w.jobs x.number ≡ Some x → next_action w x ≡ Some (Store i o s) → x.kind ≡ PutJob name bytes →
      o ≡ x.subject → b ≡ Some (block_to_store w x x.kind i o s) →
      b ≡ Some (columns (object_in w x.profile o) (w.bytes o) i s)
  put_column x name bytes i o s b runs next_is kind o_is b_is = (let bytes_are : w.bytes o ≡ bytes = cc
      (I.kept x.number x name bytes runs kind (store_place w x name bytes i o s kind next_is).0) in cc)

  -- the columns of a number that is started stay until its provider is replaced
  started_on : (from p id i s : ℕ) (name : List ℕ) (b : Option (List ℕ)) → ((scrub : Scrub) →
      w.alone ≡ Some (Scrubbing scrub) → ⊥) → ((x : Job) (n bytes : List ℕ) →
      job_of w.jobs x.number ≡ Some x → x.kind ≡ PutJob n bytes → 4 ≤ x.place → x.subject ≡ id →
      x.profile ≡ p) → started_as w.records id ≡ Some name → from ≤ length ms →
      is_replaced_since from i (m ∷ ms) ≡ false → ((c : Option (List ℕ)) →
      is_replaced_since from i ms ≡ false → told_block w i id s ≡ Some c →
      c ≡ Some (columns (object_in w p id) (w.bytes id) i s)) → told_block m.state i id s ≡ Some b →
      b ≡ Some (columns (object_in w p id) (w.bytes id) i s)
  started_on from p id i s name b no_scrub own started early none before told = elim (X.block i id s) [
    | Block_is.same e ↦ before b (elim (cases_Bool (is_replaced_since from i ms))
        [ inl t ↦ absurd (false≢true (sym none ∙ since_more from i m ms t)) | inr f ↦ f ]) (sym e ∙ told)
    | Block_is.replaced r ↦ absurd (false≢true (sym none ∙ since_now from i m ms r early))
    | Block_is.stored x runs next_is is ↦ (let b_is = some_told _ _ b (sym is ∙ told) in
        let fair_x = is_fair w x (Store i id s) next_is in elim (store_kinds x x.kind i id s refl fair_x) [
          | inl (n, bytes, kind, o_is) ↦ (let place = store_place w x n bytes i id s kind next_is in
              cc (
                put_column x n bytes i id s b runs next_is kind o_is b_is,
                own x n bytes runs kind place.0 (sym o_is),
              ))
          | inr (repairs, pin) ↦ absurd (let q = rw repairs at fair_x in
              some-not-none _ name started (cc ((A.pins.pins x.number x q.file runs q.pinned).1)))
        ])
    | Block_is.scrubbed scrub rest at next_is is ↦ absurd (no_scrub scrub at)
    | Block_is.removed x runs next_is ↦
        absurd (some-not-none _ name started (A.pins.older x.number x id runs (remove_kinds x x.kind i id refl
        (is_fair w x (Remove i id) next_is))).1)
  ]

  columns_on : (p id i s : ℕ) (b : Option (List ℕ)) → id < next_id w.records → setup_in m.state ≡ setup_in w →
      b ≡ Some (columns (object_in w p id) (w.bytes id) i s) →
      b ≡ Some (columns (object_in m.state p id) (m.state.bytes id) i s)
  columns_on p id i s b below setup e = cc (X.bytes id below)

  -- while a job runs no scrub does
  no_scrub : (x : Job) → job_of w.jobs x.number ≡ Some x → (scrub : Scrub) →
      w.alone ≡ Some (Scrubbing scrub) → ⊥
  no_scrub x runs scrub at = found_none w.jobs x.number x (A.numbers.idle.lone (Scrubbing scrub) at) runs

  -- of the put whose record was in doubt before the event
  pub put_right : (d : Doubt) (id size p i s : ℕ) (b : Option (List ℕ)) → w.doubt ≡ Some d →
      IsEndOfPut w.records d.entry id size p → setup_in m.state ≡ setup_in w → i < (setup_in m.state).n →
      s < stripes_of (profiled (setup_in m.state) p) (length (m.state.bytes id)) →
      is_replaced_since (begun_of d.maker) i (m ∷ ms) ≡ false → told_block m.state i id s ≡ Some b →
      b ≡ Some (columns (object_in m.state p id) (m.state.bytes id) i s)
  put_right d id size p i s b at e setup l k none told =
      (let h = E.put_held d id at (ends_ended w.records d.entry id size p e) in
      let n = bounds p id i s setup h.below l k in
      columns_on p id i s b h.below setup (started_on (begun_of d.maker) p id i s h.name b
      (λ scrub lone. E.lone_sure scrub d lone at) (λ x q bytes runs kind late own. E.put_own d id size p
      x.number x q bytes at e runs kind late own) h.started h.early none (λ c none_c told_c. E.put_columns d
      id size p i s c at e n.0 n.1 none_c told_c) told))

  -- the same file ends, as records stay
  ends_same : (d : Doubt) (id size p : ℕ) → m.state.records ≡ w.records →
      IsEndOfPut m.state.records d.entry id size p → IsEndOfPut w.records d.entry id size p
  ends_same d id size p rec e = rw rec at e

  -- the profile of the put whose record comes into doubt
  gated_profile : (job : Job) (a : Append) (d : Doubt) (name bytes : List ℕ) (id size p : ℕ) →
      job_of w.jobs job.number ≡ Some job → w.append ≡ Some a → a.job ≡ job.number → d.entry ≡ a.entry →
      job.kind ≡ PutJob name bytes → 4 ≤ job.place → IsEndOfPut w.records d.entry id size p → job.profile ≡ p
  gated_profile job a d name bytes id size p runs flight mine entry_is kind late e =
      (let g = E.profiles.ended a job name bytes flight (cc) kind late in
      same_profile w.records g.version e.version job.subject id (length bytes) size job.profile p (cc)
      g.profiled e.profiled)

  -- two puts with one number are one
  one_put : (job : Job) (name bytes : List ℕ) (x : Job) (n more : List ℕ) →
      job_of w.jobs job.number ≡ Some job → job.kind ≡ PutJob name bytes → 4 ≤ job.place →
      job_of w.jobs x.number ≡ Some x → x.kind ≡ PutJob n more → 4 ≤ x.place → x.subject ≡ job.subject →
      x.profile ≡ job.profile
  one_put job name bytes x n more runs kind late runs_x kind_x late_x e =
      (let k : x.number ≡ job.number = A.numbers.apart x.number job.number x job runs_x runs
      (put_number x n more kind_x late_x) (put_number job name bytes kind late) e in
      let same : x ≡ job = cc in cc)

  put_columns_step : (d : Doubt) (id size p i s : ℕ) (b : Option (List ℕ)) → m.state.doubt ≡ Some d →
      IsEndOfPut m.state.records d.entry id size p → i < (setup_in m.state).n →
      s < stripes_of (profiled (setup_in m.state) p) (length (m.state.bytes id)) →
      is_replaced_since (begun_of d.maker) i (m ∷ ms) ≡ false → told_block m.state i id s ≡ Some b →
      b ≡ Some (columns (object_in m.state p id) (m.state.bytes id) i s)
  put_columns_step d id size p i s b h e l k none told = elim (T.doubt d h) [
    | Doubt_now.kept was rec ↦ put_right d id size p i s b was (ends_same d id size p rec e)
        (setup_same m.state w (ap setup_of rec)) l k none told
    | Doubt_now.gated job a runs next_is flight mine entry_is maker rec on ↦
        (let old = ends_same d id size p rec e in
        let g = gated_put job a id runs flight mine (cc (ends_ended w.records d.entry id size p old)) in
        by_put job runs next_is (setup_same m.state w (ap setup_of rec)) (cc) (gated_profile job a d g.0 g.1
        id size p runs flight mine entry_is g.2 g.3 old) g)
    | Doubt_now.set_up t entry_is bare none_up closed ↦
        absurd (let z : None ≡ Some id = cc (ends_ended m.state.records d.entry id size p e) in cc)
  ]
    where
      by_put : (job : Job) → job_of w.jobs job.number ≡ Some job → next_action w job ≡ Some WriteGate →
          setup_in m.state ≡ setup_in w → is_replaced_since job.begun i (m ∷ ms) ≡ false → job.profile ≡ p →
          (name : List ℕ) × (bytes : List ℕ) × (job.kind ≡ PutJob name bytes) × (4 ≤ job.place)
          × (job.subject ≡ id) → b ≡ Some (columns (object_in m.state p id) (m.state.bytes id) i s)
      by_put job runs next_is setup none_job own (name, bytes, kind, late, subject) =
          (let place = write_gate_place w job name bytes kind next_is late in
          let below : id < next_id w.records =
          subst (λ o. o < next_id w.records) subject (A.numbers.below job.number job runs (put_number job name
          bytes kind late)) in
          let started_job = A.pins.started job.number job name bytes runs kind late (omega arith) in
          let started : started_as w.records id ≡ Some name = cc in let bytes_are : w.bytes id ≡ bytes =
          cc (I.kept job.number job name bytes runs kind late) in let n = bounds p id i s setup below l k in
          let made = stored_before_gate w job name bytes i s kind next_is late n.0
          (subst (λ q. s < stripes_of (profiled (setup_in w) q) (length bytes)) (sym own)
          (subst (λ y. s < stripes_of (profiled (setup_in w) p) (length y)) bytes_are n.1)) in
          columns_on p id i s b below setup (started_on job.begun p id i s name b (no_scrub job runs)
          (λ x q more runs_x kind_x late_x mine. one_put job name bytes x q more runs kind late runs_x kind_x
          late_x (mine ∙ sym subject) ∙ own) started (A.held.begun job.number job runs) none_job
          (λ c none_c told_c. A.held.stored job.number job name bytes i job.subject s c runs kind started_job
          made none_c (cc) ∙ (cc)) told))

  -- a put with a number had it before, where no record comes into effect
  record WasPut (k : ℕ) (x : Job) (name bytes : List ℕ) : Type 0 where
    before : Job
    runs : job_of w.jobs k ≡ Some before
    kind : before.kind ≡ PutJob name bytes
    late : 4 ≤ before.place
    subject : x.subject ≡ before.subject
    profile : x.profile ≡ before.profile

  was_put : (k : ℕ) (x : Job) (name bytes : List ℕ) → job_of m.state.jobs k ≡ Some x →
      x.kind ≡ PutJob name bytes → 4 ≤ x.place → m.state.records ≡ w.records → WasPut k x name bytes
  was_put k x name bytes h kind late rec = elim (X.job k x h) [
    | Job_is.kept r grown ↦
        record { before = x; runs = r; kind = kind; late = late; subject = refl; profile = refl }
    | Job_is.begun kd wish is k_is allowed rec2 ↦ absurd (let e : x.place ≡ 0 = cc in omega arith)
    | Job_is.plain y action runs next_is is_plain goes rec2 st ↦ (record {
      before = y;
      runs = runs;
      kind = (sym goes.kind ∙ kind);
      late = elim (cases_eq y.place 3) [
        | inl three ↦ absurd (rw (same_value _ action SyncGate next_is (at_three objects w y
            (cc) three)) at is_plain)
        | inr other ↦ (let e = goes.place in omega arith)
      ];
      subject = goes.subject;
      profile = goes.profile;
    })
    | Job_is.drew y runs next_is free is rec2 ↦ (let place : x.place ≡ y.place + 1 = cc in
        let l : 4 ≤ y.place = elim (cases_eq y.place 3) [
          | inl three ↦ absurd (let e : WriteBody ≡ SyncGate =
              same_value _ WriteBody SyncGate next_is (at_three objects w y (cc) three) in cc)
          | inr other ↦ omega arith
        ] in
        record {
          before = y;
          runs = runs;
          kind = cc;
          late = l;
          subject = cc (drawn_later w y y.kind (first_above y l));
          profile = cc;
        })
    | Job_is.finished y a runs next_is flight mine is rec2 free ↦
        absurd (let e : length w.records ≡ suc (length w.records) =
        sym (ap length rec) ∙ ap length rec2 in omega arith)
  ]

  -- while a vault goes on, the job whose record is in doubt runs and makes its fourth move next
  doubt_runs_step : (d : Doubt) → m.state.is_open ≡ true → m.state.is_barred ≡ false →
      m.state.doubt ≡ Some d → AtGate m.state d
  doubt_runs_step d is_open unbarred h = elim (T.doubt d h) [
    | Doubt_now.kept was rec ↦
        (let o = T.opened d h is_open in goes_on rec (E.doubt_runs d o.0 (o.1 unbarred) was))
    | Doubt_now.gated job a runs next_is flight mine entry_is maker rec on ↦ elim on [
      | inr b ↦ absurd (false≢true (sym unbarred ∙ b))
      | inl runs_on ↦ record {
        job = advanced job;
        maker = maker;
        runs = runs_on;
        next = next_same m.state w (advanced job) rec ∙ gate_next w job next_is;
      }
    ]
    | Doubt_now.set_up t entry_is bare none closed ↦ absurd (false≢true (sym closed ∙ is_open))
  ]
    where
      goes_on : m.state.records ≡ w.records → AtGate w d → AtGate m.state d
      goes_on rec g = elim (T.stay g.job.number g.job g.runs) [
        | Stay_is.stayed runs_on ↦
            record {
              job = g.job;
              maker = g.maker;
              runs = runs_on;
              next = next_same m.state w g.job rec ∙ g.next;
            }
        | Stay_is.steps action next_is gate ↦ absurd (elim (gate (cc)) [
          | inl none ↦ some-not-none m.state.doubt d h none
          | inr b ↦ false≢true (sym unbarred ∙ b)
        ])
        | Stay_is.shut closed ↦ absurd (false≢true (sym closed ∙ is_open))
        | Stay_is.undoubted none ↦ absurd (some-not-none m.state.doubt d h none)
      ]

  -- the next object number does not fall
  pub ids_grow : next_id w.records ≤ next_id m.state.records
  ids_grow = next_of_records objects w m.state A.numbers.written X.records

  -- ---- the record that comes into effect

  -- where one record is added, that one came into effect
  pub came_one : (rs : List Record) (r : Record) → m.state.records ≡ r ∷ rs → rs ≡ w.records →
      came w m.state ≡ Some r
  came_one rs r rec e = cond_true _ _ None (eq-eqb _ _ (cc)) ∙ ap newest rec

  -- where the records did not grow by one, none came into effect
  pub came_none : (n : ℕ) → length m.state.records ≡ n → (n ≡ suc (length w.records) → ⊥) →
      came w m.state ≡ None
  came_none n e other = cond_false _ _ None (ne_eqb _ _ (λ z. other (sym e ∙ z)))

  -- it was in doubt, or is a setup
  pub data Came_is : Type 0 where
    no_record : came w m.state ≡ None → Came_is
    setup : (s : Setup) → came w m.state ≡ Some (SetUp s) → Came_is
    doubted : (d : Doubt) → w.doubt ≡ Some d → m.state.records ≡ d.entry ∷ w.records →
        came w m.state ≡ Some d.entry → Came_is

  -- the record that comes into effect by an event, if one does, is a setup or was in doubt
  pub came_is : Came_is
  came_is = elim effect [
    | nothing rec ↦ no_record (came_none (length w.records) (ap length rec) (λ z. omega (arith, z)))
    | entered d at rec ↦ doubted d at rec (came_one w.records d.entry rec refl)
    | set_up s rs rec none (inl e) ↦ setup s (came_one rs (SetUp s) rec e)
    | set_up s rs rec none (inr (d, at, e)) ↦ no_record (came_none (suc (suc (length w.records))) (cc)
        (λ z. omega (arith, z)))
  ]

  -- of a put's end
  pub record PutCame (r : Record) : Type 0 where
    pub doubt : Doubt
    pub at : w.doubt ≡ Some doubt
    pub entry : doubt.entry ≡ r
    pub setup : setup_in m.state ≡ setup_in w

  -- the record of a put's end that comes into effect was in doubt, and the setup stays
  pub put_came : (r : Record) (id : ℕ) → put_ended r ≡ Some id → came w m.state ≡ Some r → PutCame r
  put_came r id ends e = elim came_is [
    | no_record none ↦ absurd (some-not-none (came w m.state) r e none)
    | setup s is ↦ absurd (no_setup s (cc))
    | doubted d at rec is ↦ (let entry_is : d.entry ≡ r = cc in
        record {
          doubt = d;
          at = at;
          entry = entry_is;
          setup = setup_same m.state w (cc (setup_left d.entry w.records (λ s z. no_setup s (sym z
              ∙ entry_is))));
        })
  ]
    where
      no_setup : (s : Setup) → SetUp s ≡ r → ⊥
      no_setup s z = (let f : None ≡ Some id = ap put_ended z ∙ ends in cc)

  -- ---- begins of audit numbers

  audits_stay : (b : Append) → w.append ≡ Some b → m.state.audits ≡ w.audits
  audits_stay b flight = elim T.audits [
    | Audits_are.undrawn e no_new ↦ e
    | Audits_are.drew x runs free mine e ↦ absurd (some-not-none w.append b flight free)
  ]

  -- the next audit number does not fall
  pub grows : next_audit w.records ≤ next_audit m.state.records
  grows = next_of_records audits w m.state A.numbers.written X.records

  audit_fresh_step : (a : Append) (j : Job) → m.state.append ≡ Some a → job_of m.state.jobs a.job ≡ Some j →
      j.kind ≡ AuditJob → j.place < 4 → m.state.audits j.subject ≡ j.begun
  audit_fresh_step a j h hj kind small = elim (X.append a h) [
    | Append_is.kept b flight job_is entry rec ↦ elim (X.job a.job j hj) [
      | Job_is.kept r grown ↦ carried b flight j refl refl kind small (cc)
      | Job_is.begun kd wish is k_is allowed rec2 ↦ absurd (let l = A.numbers.holder b flight in omega arith)
      | Job_is.plain x action runs next_is is_plain goes rec2 st ↦ carried b flight x goes.subject goes.begun
          (sym goes.kind ∙ kind) (let e = goes.place in omega arith) (cc)
      | Job_is.drew x runs next_is free is rec2 ↦ absurd (some-not-none w.append b flight free)
      | Job_is.finished x c runs next_is flight_c mine is rec2 free ↦
          absurd (some-not-none m.state.append a h free)
    ]
    | Append_is.drew x runs next_is mine writes found rec ↦ (let is = same_value _ j _ (cc) found in
        let place : j.place ≡ x.place + 1 = cc in let begun : j.begun ≡ x.begun = cc in
        let kx : x.kind ≡ AuditJob = cc in let first = first_below x (omega arith) in
        let subject : j.subject ≡ next_audit w.records = cc in
        let free = eff.drew_free limit start m ms X x _ runs next_is found refl in elim T.audits [
          | Audits_are.undrawn e no_new ↦ absurd (no_new a h free)
          | Audits_are.drew y runs_y free_y mine_y e ↦
              (let same : y ≡ x = same_value _ y x (cc (mine_y a h)) runs in
              cc (drawn_begun w x x.kind j.subject kx first subject))
        ])
  ]
    where
      carried : (b : Append) → w.append ≡ Some b → (x : Job) → j.subject ≡ x.subject → j.begun ≡ x.begun →
          x.kind ≡ AuditJob → x.place < 4 → job_of w.jobs b.job ≡ Some x → m.state.audits j.subject ≡ j.begun
      carried b flight x subject begun kx small_x runs =
          cc (audits_stay b flight, E.audit_fresh b x flight runs kx small_x)

  audit_number : (job : Job) → job.kind ≡ AuditJob → 4 ≤ job.place → HasNumber audits job
  audit_number job kind late = (cc, late)

  audit_kept_step : (k : ℕ) (j : Job) → job_of m.state.jobs k ≡ Some j → j.kind ≡ AuditJob → 4 ≤ j.place →
      m.state.audits j.subject ≡ j.begun
  audit_kept_step k j h kind late = elim (X.job k j h) [
    | Job_is.kept r grown ↦ carried j r refl refl kind late
    | Job_is.begun kd wish is k_is allowed rec ↦ absurd (let e : j.place ≡ 0 = cc in omega arith)
    | Job_is.plain x action runs next_is is_plain goes rec st ↦
        (let kx : x.kind ≡ AuditJob = sym goes.kind ∙ kind in
        elim (cases_eq x.place 3) [
          | inl three ↦ absurd (subst IsPlain (same_value _ action SyncGate next_is (at_three audits w x (cc)
              three)) is_plain)
          | inr other ↦ carried x runs goes.subject goes.begun kx (let e = goes.place in omega arith)
        ])
    | Job_is.drew x runs next_is free is rec ↦ (let kx : x.kind ≡ AuditJob = cc in
        let place : j.place ≡ x.place + 1 = cc in elim (cases_eq x.place 3) [
          | inl three ↦ absurd (let e : WriteBody ≡ SyncGate =
              same_value _ WriteBody SyncGate next_is (at_three audits w x (cc) three) in cc)
          | inr other ↦ (let l : 4 ≤ x.place = omega arith in
              carried x runs (cc (drawn_later w x x.kind (first_above x l))) (cc) kx l)
        ])
    | Job_is.finished x a runs next_is flight mine is rec free ↦ (let kx : x.kind ≡ AuditJob = cc in
        let subject : j.subject ≡ x.subject = cc in let begun : j.begun ≡ x.begun = cc in
        elim (cases_lt x.place 4) [
          | inl l ↦ cc (
            audits_stay a flight,
            E.audit_fresh a x flight (subst (λ n. job_of w.jobs n ≡ Some x) (sym mine) runs) kx l,
          )
          | inr l ↦ carried x runs subject begun kx l
        ])
  ]
    where
      carried : (x : Job) → job_of w.jobs k ≡ Some x → j.subject ≡ x.subject → j.begun ≡ x.begun →
          x.kind ≡ AuditJob → 4 ≤ x.place → m.state.audits j.subject ≡ j.begun
      carried x runs subject begun kx l =
          cc (audits_below T x.subject (U.below k x runs (audit_number x kx l)), E.audit_kept k x runs kx l)

  -- files that jobs work on, or that are in effect, have one profile for one number
  new_file : (j : Job) (kd : Kind) (wish : Option ℕ) (f : Pinned) → j ≡ beginning w (length ms) kd wish →
      In f j.pinned → Stands w f
  new_file j kd wish f is in_f = pinned_stands w kd f (rw is at in_f)

  stands_file : (f : Pinned) (q : List ℕ) (g : File) → Stands w f → file_in w q ≡ Some g → f.id ≡ g.id →
      f.profile ≡ g.profile
  stands_file f q g st h e = ap (λ (x : Pinned). x.profile) (stands_once w A.pins.sound f (pinned_file w g) st
      (record { name = q; file = g; in_effect = h; is = refl }) e)

  pin_file_step : (k : ℕ) (j : Job) (f : Pinned) (q : List ℕ) (g : File) → job_of m.state.jobs k ≡ Some j →
      In f j.pinned → file_in m.state q ≡ Some g → f.id ≡ g.id → f.profile ≡ g.profile
  pin_file_step k j f q g h in_f in_effect e = elim (comes q g in_effect).how [
    | inl stood ↦ elim (pins_is limit start m ms A.numbers A.pins X k j h) [
      | Pins_is.had x runs pinned kind begun growth ↦
          E.pin_file k x f q g runs (subst (In f) pinned in_f) stood e
      | Pins_is.new_one kd wish is k_is allowed rec ↦ stands_file f q g (new_file j kd wish f is in_f) stood e
    ]
    | inr (d, at, ends) ↦
        (let held = E.put_held d g.id at (ends_ended w.records d.entry g.id g.size g.profile ends) in
        absurd (some-not-none _ _ held.started (ap (started_as w.records) (sym e) ∙ unstarted)))
  ]
    where
      unstarted : started_as w.records f.id ≡ None
      unstarted = elim (pins_is limit start m ms A.numbers A.pins X k j h) [
        | Pins_is.had x runs pinned kind begun growth ↦ (A.pins.pins k x f runs (subst (In f) pinned in_f)).1
        | Pins_is.new_one kd wish is k_is allowed rec ↦
            (stands_quiet limit start m ms A.numbers A.pins X f (new_file j kd wish f is in_f)).1
      ]

  -- ---- the begins of audits precede puts

  -- the begin of an audit number that is drawn stays such a moment
  moved : (number : ℕ) → (number < next_audit w.records) × PrecedesPuts start ms (w.audits number) →
      (number < next_audit m.state.records) × PrecedesPuts start (m ∷ ms) (m.state.audits number)
  moved number P = (
    (let g = grows in let l = P.0 in omega (arith, l, g)),
    subst (PrecedesPuts start (m ∷ ms)) (sym (audits_below T number P.0)) (before_on (w.audits number) P.1),
  )

  -- that of an audit that has just begun
  audit_new : (k : ℕ) (j : Job) (wish : Option ℕ) → job_of m.state.jobs k ≡ Some j →
      refusal_of_begin limit w AuditJob wish ≡ None → PrecedesPuts start (m ∷ ms) (length ms)
  audit_new k j wish runs_on allowed = record { early = omega arith; puts = puts; doubts = doubts }
    where
      puts : (l : ℕ) (p : Job) (name bytes : List ℕ) → job_of m.state.jobs l ≡ Some p →
          p.kind ≡ PutJob name bytes → length ms ≤ p.begun
      puts l p name bytes h kind = elim (pins_is limit start m ms A.numbers A.pins X l p h) [
        | Pins_is.had x runs pinned kind_x begun g ↦ absurd (no_put limit w wish allowed l x name bytes runs
            (sym kind_x ∙ kind))
        | Pins_is.new_one kd own is k_is allowed_p rec_p ↦ (let e : p.begun ≡ length ms = cc in omega arith)
      ]

      open_now : m.state.is_open ≡ true
      open_now = elim (cases_Bool m.state.is_open) [
        | inl t ↦ t
        | inr f ↦ absurd (found_none m.state.jobs k j (X.idle A.numbers.idle.idle f).0 runs_on)
      ]

      doubts : (d : Doubt) (version id size profile : ℕ) → m.state.doubt ≡ Some d →
          d.entry ≡ done_record version id size profile → length ms ≤ begun_of d.maker
      doubts d version id size profile h e = absurd (elim (T.doubt d h) [
        | Doubt_now.kept was rec_d ↦ (let g = E.doubt_runs d (T.opened d h open_now).0
            (not_barred limit w AuditJob wish allowed) was in
            let p = E.doubt_put d g.job id was g.maker (cc (done-ended version id size profile)) in
            no_put limit w wish allowed g.job.number g.job p.0 p.1 g.runs p.2)
        | Doubt_now.gated job a runs next_is flight mine entry_is maker rec_d on_ ↦
            (let g = gated_put job a id runs flight mine (cc (done-ended version id size profile)) in
            no_put limit w wish allowed job.number job g.0 g.1 runs g.2)
        | Doubt_now.set_up t entry_is bare none closed ↦
            ends_other version id size profile (SetUp t) (sym e ∙ entry_is) refl
      ])

  -- the audit whose last record comes into doubt
  pub record AuditGated (job : Job) (number : ℕ) : Type 0 where
    pub kind : job.kind ≡ AuditJob
    pub below : number < next_audit w.records
    pub begins : w.audits number ≡ job.begun

  -- an audit whose last record comes into doubt has this number, whose begin is its own
  pub audit_gated : (job : Job) (a : Append) (number u : ℕ) (c : List ℕ) →
      job_of w.jobs job.number ≡ Some job → w.append ≡ Some a → a.job ≡ job.number →
      a.entry ≡ AuditDone number u c → AuditGated job number
  audit_gated job a number u c runs flight mine e =
      (let at_job = subst (λ n. job_of w.jobs n ≡ Some job) (sym mine) runs in
      let kind = wrote_of job job.kind a.entry _ (A.pins.wrote a job flight at_job) e in
      let g = E.audit_entry a job number u c flight at_job kind e in
      record {
        kind = kind;
        below = subst (λ n. n < next_audit w.records) (sym g.0) (U.below job.number job runs (audit_number job
            kind g.1));
        begins = cc (E.audit_kept job.number job runs kind g.1);
      })

  -- the repair whose record comes into doubt
  pub record RepairGated (job : Job) (number : ℕ) : Type 0 where
    pub kind : job.kind ≡ RepairJob
    pub subject : number ≡ job.subject

  -- a repair whose record comes into doubt has this number
  pub repair_gated : (job : Job) (a : Append) (number : ℕ) → job_of w.jobs job.number ≡ Some job →
      w.append ≡ Some a → a.job ≡ job.number → a.entry ≡ RepairDone number → RepairGated job number
  repair_gated job a number runs flight mine e =
      (let at_job = subst (λ n. job_of w.jobs n ≡ Some job) (sym mine) runs in
      let kind = wrote_of job job.kind a.entry _ (A.pins.wrote a job flight at_job) e in
      record { kind = kind; subject = E.repair_entry a job number flight at_job kind e })

  due_begins : (u : Due) → due_of m.state.records ≡ Some u →
      (u.number < next_audit m.state.records) × PrecedesPuts start (m ∷ ms) (m.state.audits u.number)
  due_begins u h = elim effect [
    | nothing rec ↦ moved u.number (E.due u (ap due_of (sym rec) ∙ h))
    | entered d at rec ↦ of_doubt d at (ap due_of (sym rec) ∙ h)
    | set_up s rs rec none (inl e) ↦ moved u.number (E.due u (cc))
    | set_up s rs rec none (inr (d, at, e)) ↦ of_doubt d at (cc)
  ]
    where
      of_doubt : (d : Doubt) → w.doubt ≡ Some d → due_of (d.entry ∷ w.records) ≡ Some u →
          (u.number < next_audit m.state.records) × PrecedesPuts start (m ∷ ms) (m.state.audits u.number)
      of_doubt d at g = elim (due_done d.entry w.records u (A.numbers.written.1 d at) g) [
        | inl was ↦ moved u.number (E.due u was)
        | inr (und, e) ↦ moved u.number (E.audit_doubt d u.number und u.counts at e)
      ]

  -- no put that works began before the audit that a running repair settles
  pub repair_begins : (k : ℕ) (j : Job) → job_of m.state.jobs k ≡ Some j → j.kind ≡ RepairJob →
      (j.subject < next_audit m.state.records) × PrecedesPuts start (m ∷ ms) (m.state.audits j.subject)
  repair_begins k j h kind = elim (X.job k j h) [
    | Job_is.kept r grown ↦ moved j.subject (E.repair k j r kind)
    | Job_is.begun kd wish is k_is allowed rec ↦ (let kd_is : kd ≡ RepairJob = cc in
        let u = repair_due limit w wish (due_of w.records) refl (cc) in
        let new : j ≡ beginning w (length ms) RepairJob wish = cc in
        as_number u.0.number (cc) (moved u.0.number (E.due u.0 u.1)))
    | Job_is.plain x action runs next_is is_plain goes rec st ↦
        as_number x.subject goes.subject (moved x.subject (E.repair k x runs (sym goes.kind ∙ kind)))
    | Job_is.drew x runs next_is free is rec ↦ (as_number x.subject (cc)
        (moved x.subject (E.repair k x runs cc)))
    | Job_is.finished x a runs next_is flight mine is rec free ↦
        as_number x.subject (cc) (moved x.subject (E.repair k x runs (cc)))
  ]
    where
      as_number : (n : ℕ) → j.subject ≡ n → (n < next_audit m.state.records) ×
          PrecedesPuts start (m ∷ ms) (m.state.audits n) →
          (j.subject < next_audit m.state.records) × PrecedesPuts start (m ∷ ms) (m.state.audits j.subject)
      as_number n e P = rw (← e) at P

  -- so does that of the last settled audit
  mark_begins : PrecedesPuts start (m ∷ ms) (since start (m ∷ ms))
  mark_begins = elim came_is [
    | no_record e ↦ as_came None e (before_on (since start ms) E.mark)
    | setup s e ↦ as_came (Some (SetUp s)) e (before_on (since start ms) E.mark)
    | doubted d at rec e ↦ as_came (Some d.entry) e (by_entry d at d.entry refl)
  ]
    where
      as_came : (o : Option Record) → came w m.state ≡ o →
          PrecedesPuts start (m ∷ ms) (mark_after m.state (settled_by (setup_in m.state) o)
          (since start ms)) → PrecedesPuts start (m ∷ ms) (since start (m ∷ ms))
      as_came o e P = subst (λ z. PrecedesPuts start (m ∷ ms)
          (mark_after m.state (settled_by (setup_in m.state) z) (since start ms))) (sym e) P

      by_entry : (d : Doubt) → w.doubt ≡ Some d → (r : Record) → d.entry ≡ r →
          PrecedesPuts start (m ∷ ms) (mark_after m.state (settled_by (setup_in m.state) (Some r))
          (since start ms))
      by_entry d at (AuditDone number u c) e = elim (cases_Bool (exceeds (Some (setup_in m.state)) c)) [
        | inl t ↦ subst (λ z. PrecedesPuts start (m ∷ ms) (mark_after m.state z (since start ms)))
            (sym (cond_true _ None _ t)) (before_on (since start ms) E.mark)
        | inr f ↦ subst (λ z. PrecedesPuts start (m ∷ ms) (mark_after m.state z (since start ms)))
            (sym (cond_false _ None _ f)) (moved number (E.audit_doubt d number u c at e)).1
      ]
      by_entry d at (RepairDone number) e = (moved number (E.repair_doubt d number at e)).1
      by_entry d at r e = before_on (since start ms) E.mark

  always_step : ((scrub : Scrub) → m.state.alone ≡ Some (Scrubbing scrub) → m.state.is_open ≡ true) →
      ((scrub : Scrub) (d : Doubt) → m.state.alone ≡ Some (Scrubbing scrub) → m.state.doubt ≡ Some d → ⊥) →
      Always start (m ∷ ms)
  always_step lone_open lone_sure = record {
    gated = X.gated E.gated;
    setup_doubt = λ d s h e. elim (T.doubt d h) [
      | Doubt_now.kept was rec ↦ cc (E.setup_doubt d s was e)
      | Doubt_now.gated job a runs next_is flight mine entry_is maker rec on ↦
          absurd (wrote_of job job.kind a.entry _ (A.pins.wrote a job flight (cc)) (sym entry_is ∙ e))
      | Doubt_now.set_up t entry_is bare none closed ↦ none
    ];
    profiles = prof.step_facts limit start m ms A.numbers A.pins E.profiles X;
    put_held = put_held_step;
    put_columns = put_columns_step;
    put_own = λ d id size p k x name bytes h e runs_on kind late mine_x. elim (T.doubt d h) [
      | Doubt_now.kept was rec ↦ (let y = was_put k x name bytes runs_on kind late rec in
          y.profile ∙ E.put_own d id size p k y.before name bytes was
          (ends_same d id size p rec e) y.runs y.kind y.late (sym y.subject ∙ mine_x))
      | Doubt_now.gated job a runs next_is flight mine entry_is maker rec on ↦
          (let y = was_put k x name bytes runs_on kind late rec in let old = ends_same d id size p rec e in
          let g = gated_put job a id runs flight mine (cc (ends_ended w.records d.entry id size p old)) in
          y.profile ∙ (one_put job g.0 g.1 y.before name bytes runs g.2 g.3
          (cc (number_of w.jobs k y.before y.runs)) y.kind y.late (cc) ∙ gated_profile job a d g.0 g.1 id size
          p
          runs flight mine entry_is g.2 g.3 old))
      | Doubt_now.set_up t entry_is bare none_up closed ↦
          absurd (let z : None ≡ Some id = cc (ends_ended m.state.records d.entry id size p e) in cc)
    ];
    lone_open = lone_open;
    lone_sure = lone_sure;
    doubt_put = λ d job id h maker e. elim (T.doubt d h) [
      | Doubt_now.kept was rec ↦ E.doubt_put d job id was maker e
      | Doubt_now.gated x a runs next_is flight mine entry_is maker_is rec on ↦
          (let g = gated_put x a id runs flight mine (cc) in let same : job ≡ advanced x = cc in
          (g.0, g.1, cc))
      | Doubt_now.set_up t entry_is bare none closed ↦ absurd (let z : None ≡ Some id = cc in cc)
    ];
    doubt_runs = doubt_runs_step;
    audit_entry = λ a j number u c h hj kind e. elim (X.append a h) [
      | Append_is.kept b flight job_is entry rec ↦ elim (X.job a.job j hj) [
        | Job_is.kept r grown ↦ E.audit_entry b j number u c flight (cc) kind (sym entry ∙ e)
        | Job_is.begun kd wish is k_is allowed rec2 ↦ absurd
            (let l = A.numbers.holder b flight in omega arith)
        | Job_is.plain x action runs next_is is_plain goes rec2 st ↦
            (let g = E.audit_entry b x number u c flight (cc) (sym goes.kind ∙ kind) (sym entry ∙ e) in
            (g.0 ∙ sym goes.subject, (let p = goes.place in let l = g.1 in omega arith)))
        | Job_is.drew x runs next_is free is rec2 ↦ absurd (some-not-none w.append b flight free)
        | Job_is.finished x d runs next_is flight_d mine is rec2 free ↦
            absurd (some-not-none m.state.append a h free)
      ]
      | Append_is.drew x runs next_is mine writes found rec ↦ (let is = same_value _ j _ (cc) found in
          let place : j.place ≡ x.place + 1 = cc in let kx : x.kind ≡ AuditJob = cc in
          let g = audit_writes w x x.kind a.entry number u c kx writes e in (
            cc (drawn_later w x x.kind (first_above x g.1)),
            (let l = g.1 in omega arith),
          ))
    ];
    repair_entry = λ a j number h hj kind e. elim (X.append a h) [
      | Append_is.kept b flight job_is entry rec ↦ elim (X.job a.job j hj) [
        | Job_is.kept r grown ↦ E.repair_entry b j number flight (cc) kind (sym entry ∙ e)
        | Job_is.begun kd wish is k_is allowed rec2 ↦ absurd
            (let l = A.numbers.holder b flight in omega arith)
        | Job_is.plain x action runs next_is is_plain goes rec2 st ↦
            E.repair_entry b x number flight (cc) (sym goes.kind ∙ kind) (sym entry ∙ e) ∙ sym goes.subject
        | Job_is.drew x runs next_is free is rec2 ↦ absurd (some-not-none w.append b flight free)
        | Job_is.finished x d runs next_is flight_d mine is rec2 free ↦
            absurd (some-not-none m.state.append a h free)
      ]
      | Append_is.drew x runs next_is mine writes found rec ↦ (let is = same_value _ j _ (cc) found in
          let kx : x.kind ≡ RepairJob = cc in cc (repair_writes w x x.kind a.entry number kx writes e))
    ];
    audit_fresh = audit_fresh_step;
    audit_kept = audit_kept_step;
    pinned = λ k j f h in_f. elim (pins_is limit start m ms A.numbers A.pins X k j h) [
      | Pins_is.had x runs pinned kind begun g ↦
          (let in_x = subst (In f) pinned in_f in E.pinned k x f runs in_x
          ∙ sym (X.bytes f.id (A.pins.pins k x f runs in_x).0))
      | Pins_is.new_one kd wish is k_is allowed rec ↦
          (let st = pinned_stands w kd f (subst (λ x. In f x.pinned) is in_f) in
          let id_is : f.id ≡ st.file.id = cc in ap (λ x. x.bytes) st.is ∙ (ap w.bytes (sym id_is)
          ∙ sym (X.bytes f.id (let l = file_below A st.name st.file st.in_effect in omega arith))))
    ];
    one_pin = λ k l j i f g h h2 in_f in_g e. elim (pins_is limit start m ms A.numbers A.pins X k j h) [
      | Pins_is.had x runs pinned kind begun growth ↦
          elim (pins_is limit start m ms A.numbers A.pins X l i h2) [
            | Pins_is.had y runs_y pinned_y kind_y begun_y growth_y ↦
                E.one_pin k l x y f g runs runs_y (rw pinned at in_f) (rw pinned_y at in_g) e
            | Pins_is.new_one kd wish is k_is allowed rec ↦ (let st = new_file i kd wish g is in_g in
                E.pin_file k x f st.name st.file runs (rw pinned at in_f) st.in_effect (cc) ∙ sym (cc))
          ]
      | Pins_is.new_one kd wish is k_is allowed rec ↦
          elim (pins_is limit start m ms A.numbers A.pins X l i h2) [
            | Pins_is.had y runs_y pinned_y kind_y begun_y growth_y ↦
                (let st = new_file j kd wish f is in_f in
                cc (E.pin_file l y g st.name st.file runs_y (rw pinned_y at in_g) st.in_effect (sym e
                ∙ ap (λ z. z.id) st.is)))
            | Pins_is.new_one kd2 wish2 is2 k_is2 allowed2 rec2 ↦ cc (stands_once w A.pins.sound f g
                (new_file j kd wish f is in_f) (new_file i kd2 wish2 g is2 in_g) e)
          ]
    ];
    pin_file = pin_file_step;
    -- no put that works began before a running audit
    audit = λ k j h kind. elim (pins_is limit start m ms A.numbers A.pins X k j h) [
      | Pins_is.had x runs pinned kind_x begun g ↦ subst (PrecedesPuts start (m ∷ ms)) (sym begun)
          (before_on x.begun (E.audit k x runs (sym kind_x ∙ kind)))
      | Pins_is.new_one kd wish is k_is allowed rec ↦ (let kd_is : kd ≡ AuditJob = cc in
          subst (PrecedesPuts start (m ∷ ms)) (cc) (audit_new k j wish h (cc)))
    ];
    audit_doubt = λ d number u c h e. elim (T.doubt d h) [
      | Doubt_now.kept was rec ↦ moved number (E.audit_doubt d number u c was e)
      | Doubt_now.gated job a runs next_is flight mine entry_is maker rec on ↦
          (let g = audit_gated job a number u c runs flight mine (sym entry_is ∙ e) in
          moved number (g.below, (rw (← g.begins) at (E.audit job.number job runs g.kind))))
      | Doubt_now.set_up t entry_is bare none closed ↦ absurd (cc (sym entry_is ∙ e))
    ];
    due = due_begins;
    repair = repair_begins;
    repair_doubt = λ d number h e. elim (T.doubt d h) [
      | Doubt_now.kept was rec ↦ moved number (E.repair_doubt d number was e)
      | Doubt_now.gated job a runs next_is flight mine entry_is maker rec on ↦
          (let g = repair_gated job a number runs flight mine (sym entry_is ∙ e) in
          moved number (rw (← g.subject) at (E.repair job.number job runs g.kind)))
      | Doubt_now.set_up t entry_is bare none closed ↦ absurd (cc (sym entry_is ∙ e))
    ];
    mark = mark_begins;
  }

-- ---- what runs alone

module _ {limit : ℕ} {start : State} {m : Moment} {ms : List Moment} (N : Around limit start m ms)
    (S : (scrub : Scrub) → m.state.alone ≡ Some (Scrubbing scrub) →
    Scrub_is (length ms) m.event (now start ms) m.state scrub) where
  open N use {facts as A, kept as E, changed as X}

  -- a scrub runs in an open vault, and no record is in doubt
  lone_open_by : (scrub : Scrub) → Scrub_is (length ms) m.event (now start ms) m.state scrub →
      m.state.is_open ≡ true
  lone_open_by scrub (Scrub_is.kept was b) = b.is_open ∙ E.lone_open scrub was
  lone_open_by scrub (Scrub_is.begun event is none_alone is_open unbarred b) = b.is_open ∙ is_open
  lone_open_by scrub (Scrub_is.went before was goes b) = b.is_open ∙ E.lone_open before was

  lone_sure_by : (scrub : Scrub) (d : Doubt) → m.state.jobs ≡ [] →
      Scrub_is (length ms) m.event (now start ms) m.state scrub → m.state.doubt ≡ Some d → ⊥
  lone_sure_by scrub d none (Scrub_is.kept was b) h = E.lone_sure scrub d was (sym b.doubt ∙ h)
  lone_sure_by scrub d none (Scrub_is.begun event is none_alone is_open unbarred b) h =
      (let g = E.doubt_runs d is_open unbarred (sym b.doubt ∙ h) in
      found_none (now start ms).jobs g.job.number g.job (sym b.jobs ∙ none) g.runs)
  lone_sure_by scrub d none (Scrub_is.went before was goes b) h = E.lone_sure before d was (sym b.doubt ∙ h)

  lone_open_step : (scrub : Scrub) → m.state.alone ≡ Some (Scrubbing scrub) → m.state.is_open ≡ true
  lone_open_step scrub h = lone_open_by scrub (S scrub h)

  lone_sure_step : (scrub : Scrub) (d : Doubt) → m.state.alone ≡ Some (Scrubbing scrub) →
      m.state.doubt ≡ Some d → ⊥
  lone_sure_step scrub d h = lone_sure_by scrub d (X.lone A.numbers.idle.lone (Scrubbing scrub) h) (S scrub h)

start_always : (limit : ℕ) (start : State) → IsStart start → Always start []
start_always limit start clean = record {
  gated = λ a h. absurd (some-not-none start.append a h clean.append);
  setup_doubt = λ d s h e. absurd (some-not-none start.doubt d h clean.doubt);
  profiles = prof.facts limit start clean [] tt;
  put_held = λ d id h e. absurd (some-not-none start.doubt d h clean.doubt);
  put_columns = λ d id size p i s b h e l k none told. absurd (some-not-none start.doubt d h clean.doubt);
  put_own = λ d id size p k x name bytes h e. absurd (some-not-none start.doubt d h clean.doubt);
  lone_open = λ scrub h. absurd (some-not-none _ _ h clean.none_alone);
  lone_sure = λ scrub d h. absurd (some-not-none _ _ h clean.none_alone);
  doubt_put = λ d job id h maker e. absurd (some-not-none start.doubt d h clean.doubt);
  doubt_runs = λ d o b h. absurd (some-not-none start.doubt d h clean.doubt);
  audit_entry = λ a j number u c h. absurd (some-not-none start.append a h clean.append);
  repair_entry = λ a j number h. absurd (some-not-none start.append a h clean.append);
  audit_fresh = λ a j h. absurd (some-not-none start.append a h clean.append);
  audit_kept = λ k j h kind late. absurd (found_none start.jobs k j clean.jobs h);
  pinned = λ k j f h in_f. absurd (found_none start.jobs k j clean.jobs h);
  one_pin = λ k l j i f g h. absurd (found_none start.jobs k j clean.jobs h);
  pin_file = λ k j f q g h. absurd (found_none start.jobs k j clean.jobs h);
  audit = λ k j h kind. absurd (found_none start.jobs k j clean.jobs h);
  audit_doubt = λ d number u c h e. absurd (some-not-none start.doubt d h clean.doubt);
  due = λ u h. absurd (no_first_due start.records u clean.records h);
  repair = λ k j h kind. absurd (found_none start.jobs k j clean.jobs h);
  repair_doubt = λ d number h e. absurd (some-not-none start.doubt d h clean.doubt);
  mark = record {
    early = omega arith;
    puts = λ k j name bytes h kind. absurd (found_none start.jobs k j clean.jobs h);
    doubts = λ d version id size profile h e. absurd (some-not-none start.doubt d h clean.doubt);
  };
}

-- what holds of the record in doubt, of audits, repairs and the mark holds in every run
pub always : (limit : ℕ) (start : State) → IsStart start → (ms : List Moment) → IsRun limit start ms →
    Always start ms
always limit start clean [] run = start_always limit start clean
always limit start clean (m ∷ ms) run = go (always limit start clean ms run.2)
  where
    go : Always start ms → Always start (m ∷ ms)
    go E = (let N = around_by limit start m ms clean run E in
        let S = scrub_is (length ms) (now start ms) N.facts.numbers.idle.lone E.lone_open limit m.event
        m.outcome m.state run.1 in always_step N
        (lone_open_step N S) (lone_sure_step N S))

-- what holds before an event of a run, and what it changes
pub around : (limit : ℕ) (start : State) (m : Moment) (ms : List Moment) → IsStart start →
    IsRun limit start (m ∷ ms) → Around limit start m ms
around limit start m ms clean run = around_by limit start m ms clean run (always limit start clean ms run.2)
