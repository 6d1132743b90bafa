-- What may stand under a name, at each moment of a run, by the puts and drops of it that began.
use Rattle.effect_laws.proofs.Words.{◌≡◌, ℕ, ◌+◌, ◌<◌, ◌≤◌, cond, List, [], ◌∷◌, ◌++◌, length, Option, Some, None, refl, ap, sym, subst, inl, inr, arith, cases_Bool, cases_lt, Record, File, file_as, version_of, next_id, started_as, is_start_of, is_same_name, file_of, same-eq, Kind, PutJob, GetJob, DropJob, AuditJob, RepairJob, UpgradeJob, Job, job_of, WriteBody, Begun, State, Append, Doubt, IsStart, Writes, is_first_append, next_action, Moment, now, IsRun, IsBeginOf, Append_is, Doubt_is, Records_is, Changes, changes, objects, Draws, next_of_records, first_above, first_below, All, all, Came, came_all}
use Rattle.machine_defs.proofs.Done.{profile_done, done-file}
use Rattle.machine_defs.proofs.Fair.{PutAt, put_next, stores_count}
use Rattle.run_laws.proofs.InEffect as effect

-- Bytes that fit stand under the name, and nothing does only where it may be absent.
module _ (Fit : List ℕ → Type 0) (Absent : Type 0) (name : List ℕ) where
  -- what stands under it: a file with a drawn number, which stands for bytes that fit, or nothing
  abbrev pub Fits : State → Option File → Type 0
  Fits w None = Absent
  Fits w (Some file) = (file.id < next_id w.records) × Fit (w.bytes file.id)

  -- a job of this kind puts bytes that fit, and drops the name only where it may be absent
  abbrev pub Allows : Kind → Type 0
  Allows (PutJob n bytes) = n ≡ name → Fit bytes
  Allows (DropJob n) = n ≡ name → Absent
  Allows kind = Unit {0}

  -- what a record on top of those in effect leaves under the name
  abbrev pub Brings : State → Record → Type 0
  Brings w entry = Fits w (file_of (entry ∷ w.records) name)

  -- what stands under the name fits, whatever comes of the records in flight and in doubt and of the jobs
  pub record Offers (w : State) : Type 0 where
    pub effect : Fits w (file_of w.records name)
    pub flight : (a : Append) → w.append ≡ Some a → Brings w a.entry
    pub doubt : (d : Doubt) → w.doubt ≡ Some d → Brings w d.entry
    pub jobs : (k : ℕ) (j : Job) → job_of w.jobs k ≡ Some j → Allows j.kind

  -- each job that a moment begins is allowed
  abbrev pub BeginsAllowed : Moment → Type 0
  BeginsAllowed m = (j : Job) (n : ℕ) → IsBeginOf m.event j → m.outcome ≡ Begun n → Allows j.kind

  -- so is each that these begin
  abbrev pub AllAllowed : List Moment → Type 0
  AllAllowed [] = Unit {0}
  AllAllowed (m ∷ ms) = BeginsAllowed m × AllAllowed ms

  -- a record that a job writes, where a put's own number is started under its name and stands for its bytes
  pub written : (w : State) (job : Job) (kind : Kind) (entry : Record) → Fits w (file_of w.records name) →
      Allows kind → ((n bytes : List ℕ) → kind ≡ PutJob n bytes → 4 ≤ job.place →
      (job.subject < next_id w.records) × (started_as w.records job.subject ≡ Some n)
      × (w.bytes job.subject ≡ bytes)) → Writes w job kind entry → Brings w entry
  written w job (PutJob n bytes) entry effect allows drawn writes = elim (cases_lt job.place 4) [
    | inl l ↦ rw (writes, first_below job l) effect
    | inr l ↦ rw (
      writes,
      first_above job l,
      done-file (version_of w.records) job.subject (length bytes) job.profile w.records name,
    )
        (by_name (drawn n bytes refl l))
  ]
    where
      brought : File
      brought = file_as name job.subject (length bytes)
          (profile_done (version_of w.records) w.records job.profile)

      by_name : (job.subject < next_id w.records) × (started_as w.records job.subject ≡ Some n) ×
          (w.bytes job.subject ≡ bytes) → Fits w (cond (is_start_of name (started_as w.records job.subject))
          (Some brought) (file_of w.records name))
      by_name (below, started, own) = elim (cases_Bool (is_same_name n name)) [
        | inl t ↦ rw (started, t) (below, subst Fit (sym own) (allows (same-eq n name t)))
        | inr f ↦ rw (started, f) effect
      ]
  written w job (GetJob n) entry effect allows drawn writes = absurd writes
  written w job (DropJob n) entry effect allows drawn writes = elim (cases_Bool (is_same_name n name)) [
    | inl t ↦ rw (writes, t) (allows (same-eq n name t))
    | inr f ↦ rw (writes, f) effect
  ]
  written w job AuditJob entry effect allows drawn writes = elim (cases_Bool (is_first_append job)) [
    | inl t ↦ (let g = rw t at writes in rw g effect)
    | inr f ↦ (let g = rw f at writes in rw g.2 effect)
  ]
  written w job RepairJob entry effect allows drawn writes = rw writes effect
  written w job UpgradeJob entry effect allows drawn writes = rw writes effect

  module _ (limit : ℕ) (start : State) (m : Moment) (ms : List Moment) (run : IsRun limit start (m ∷ ms))
      (A : All start ms) (F : effect.Facts (now start ms))
      (X : Changes limit (length ms) (now start ms) m.event m.outcome m.state) (O : Offers (now start ms))
      (begins : BeginsAllowed m) where
    abbrev old : State
    old = now start ms

    -- what stood under the name stands for the same bytes
    carry : (o : Option File) → Fits old o → Fits m.state o
    carry None h = h
    carry (Some file) h = (
      (let l = h.0 in let g = next_of_records objects (now start ms) m.state A.numbers.written X.records in
          omega arith),
      subst Fit (sym (X.bytes file.id h.0)) h.1,
    )

    -- the same where the records are these
    carried : (rs : List Record) → m.state.records ≡ rs → Fits old (file_of rs name) →
        Fits m.state (file_of m.state.records name)
    carried rs is h = subst (Fits m.state) (ap (λ l. file_of l name) (sym is)) (carry (file_of rs name) h)

    effect_step : Fits m.state (file_of m.state.records name)
    effect_step = elim X.records [
      | Records_is.same rec ↦ carried (now start ms).records rec O.effect
      | Records_is.finished x a runs next_is flies mine moves rec ↦ carried _ rec (O.flight a flies)
      | Records_is.settled d in_doubt rec ↦ carried _ rec (O.doubt d in_doubt)
      | Records_is.set_up s out rec ↦ carried _ rec O.effect
      | Records_is.settled_set_up s d in_doubt out rec ↦ carried _ rec (O.doubt d in_doubt)
    ]

    -- a record that brought fitting bytes in does so still, where none came into effect
    brings_on : (entry : Record) → m.state.records ≡ (now start ms).records → Brings old entry →
        Brings m.state entry
    brings_on entry rec h = subst (Fits m.state) (ap (λ l. file_of (entry ∷ l) name) (sym rec))
        (carry (file_of (entry ∷ (now start ms).records) name) h)

    drawn : (x : Job) → job_of (now start ms).jobs x.number ≡ Some x →
        next_action (now start ms) x ≡ Some WriteBody → (n bytes : List ℕ) → x.kind ≡ PutJob n bytes →
        4 ≤ x.place → (x.subject < next_id (now start ms).records)
        × (started_as (now start ms).records x.subject ≡ Some n) × ((now start ms).bytes x.subject ≡ bytes)
    drawn x runs next_is n bytes kind late = (
      A.numbers.below x.number x runs (subst (Draws objects) (sym kind) tt, late),
      A.pins.started x.number x n bytes runs kind late
          (early (put_next (now start ms) x n bytes WriteBody kind next_is)),
      F.kept x.number x n bytes runs kind late,
    )
      where
        early : PutAt (now start ms) x bytes x.place WriteBody →
            x.place < 8 + stores_count (now start ms) x bytes
        early (PutAt.first l e) = absurd (omega arith)
        early (PutAt.second q is l e) = omega arith
        early (PutAt.store l k is) = absurd is
        early (PutAt.after l is) = absurd is

    flight_step : (a : Append) → m.state.append ≡ Some a → Brings m.state a.entry
    flight_step a h = elim (X.append a h) [
      | Append_is.kept b flies job entry rec ↦
          brings_on a.entry rec (subst (Brings old) (sym entry) (O.flight b flies))
      | Append_is.drew x runs next_is mine writes found rec ↦ brings_on a.entry rec
          (written (now start ms) x x.kind a.entry O.effect (O.jobs x.number x runs) (drawn x runs next_is)
          writes)
    ]

    doubt_step : (d : Doubt) → m.state.doubt ≡ Some d → Brings m.state d.entry
    doubt_step d h = elim (X.doubt d h) [
      | Doubt_is.kept before rec ↦ brings_on d.entry rec (O.doubt d before)
      | Doubt_is.gated a flies entry rec ↦
          brings_on d.entry rec (subst (Brings old) (sym entry) (O.flight a flies))
      | Doubt_is.set_up s entry ↦ subst (Brings m.state) (sym entry) effect_step
    ]

    jobs_step : (k : ℕ) (j : Job) → job_of m.state.jobs k ≡ Some j → Allows j.kind
    jobs_step k j h =
        elim (came_all (now start ms) limit (length ms) m.event m.outcome m.state run.1 k j h) [
          | Came.had x numbered ↦ subst Allows (sym x.kind) (O.jobs k x.job x.runs)
          | Came.fresh event outcome begun ↦ begins j k event outcome
        ]

    offers_step : Offers m.state
    offers_step =
        record { effect = effect_step; flight = flight_step; doubt = doubt_step; jobs = jobs_step }

  -- so it is at each later moment, while each job that begins is allowed
  pub offers : (limit : ℕ) (start : State) → IsStart start → (later ms : List Moment) →
      IsRun limit start (later ++ ms) → Offers (now start ms) → AllAllowed later →
      Offers (now start (later ++ ms))
  offers limit start clean [] ms run O allowed = O
  offers limit start clean (m ∷ later) ms run O allowed =
      (let A = all limit start clean (later ++ ms) run.2 in
      offers_step limit start m (later ++ ms) run A (effect.facts limit start (later ++ ms) clean run.2)
      (changes limit (length (later ++ ms)) (now start (later ++ ms)) m.event m.outcome m.state
      A.numbers.idle run.1)
      (offers limit start clean later ms run.2 O allowed.1) allowed.0)
