-- What holds at each moment of a run of the files in effect and of those that jobs work on.
use Rattle.machine_defs.proofs.Words.{◌≡◌, suc, ◌≤◌, ◌⊎◌, refl, ap, sym, subst, ◌∙◌, inl, inr, arith, eq-eqb, ne_eqb, cases_Bool, cases_eq, cases_lt, false≢true, Record, Setup, SetUp, PutStart, PutDone, PutDoneIn, Resume, InEffect, RepairDue, File, file_as, setup_of, version_of, next_id, next_audit, started_as, is_start_of, is_same_name, file_of, Kind, PutJob, GetJob, DropJob, AuditJob, RepairJob, UpgradeJob, aim_of, Pinned, Job, job_of, Action, WriteBody, SyncGate, Store, on_each_provider, on_each_stripe, setup_or_none, profiled, State, Append, Doubt, AreFirst, IsStart, setup_in, file_in, refusal_of_begin, beginning, is_check, Writes, done_record, is_first_append, subject_drawn, next_action, Moment, now, In, same-refl}
use Rattle.std.proofs.Common.{ℕ, ◌+◌, ◌<◌, ◌==◌, true, List, [], ◌∷◌, length, Option, Some, None}
use Rattle.machine_defs.proofs.JobLists.{cond_true, cond_false, same_value, found_none}
use Rattle.machine_defs.proofs.Changes.{IsPlain, Grown, Job_is, Append_is, Records_is, Doubt_is, Changes}
use Rattle.machine_defs.proofs.Numbers.{objects, Draws, next_of_records, at_three, first_above, first_below, drawn_later}
use Rattle.machine_defs.proofs.RecordFacts.{IsProper, AreSound, sound-more, sound-none, not_started-more, file-more}
use Rattle.machine_defs.proofs.Done.{put_ended, profile_done, done-setup, done-ended, done-file}
use Rattle.machine_defs.proofs.Fair.{stores_count, gate_place}
use Rattle.machine_defs.proofs.Pins.{Stands, pinned_stands, not_pinned, Taken, Takes, taken, check_alone, Wrote, writes_proper}
use Rattle.machine_defs.proofs.Numbers as num

-- ---- setups and counts of stores

-- records with the same setup have the same setup in effect
pub setup_same : (v w : State) → setup_of v.records ≡ setup_of w.records → setup_in v ≡ setup_in w
unfolding setup_in
setup_same v w h = ap setup_or_none h

count_by : Setup → ℕ → ℕ → List ℕ → ℕ
count_by s profile subject bytes = length (on_each_stripe (profiled s profile) (length bytes)
    (λ stripe. on_each_provider s (λ p. Store p subject stripe)))

count_is : (w : State) (job : Job) (bytes : List ℕ) →
    stores_count w job bytes ≡ count_by (setup_in w) job.profile job.subject bytes
unfolding count_by
count_is w job bytes = refl

-- puts with one number and one profile, under one setup, make equally many stores
pub count_same : (v w : State) (i j : Job) (bytes : List ℕ) → setup_of v.records ≡ setup_of w.records →
    i.subject ≡ j.subject → i.profile ≡ j.profile → stores_count v i bytes ≡ stores_count w j bytes
count_same v w i j bytes s e p =
    count_is v i bytes ∙ (ap (λ x. count_by x i.profile i.subject bytes) (setup_same v w s)
    ∙ (ap (λ n. count_by (setup_in w) i.profile n bytes) e
    ∙ (ap (λ n. count_by (setup_in w) n j.subject bytes) p ∙ sym (count_is w j bytes))))

-- no append of a job changes the setup
pub wrote_setup : (job : Job) (kind : Kind) (entry : Record) (rs : List Record) → Wrote job kind entry →
    setup_of (entry ∷ rs) ≡ setup_of rs
wrote_setup job (PutJob name bytes) entry rs (inr h) =
    ap (λ (r : Record). setup_of (r ∷ rs)) h.1.1 ∙ done-setup h.1.0 job.subject (length bytes) job.profile rs
wrote_setup job (GetJob name) entry rs h = absurd h
wrote_setup job (DropJob name) entry rs h = ap (λ (r : Record). setup_of (r ∷ rs)) h
wrote_setup job AuditJob entry rs (inr h) = ap (λ (r : Record). setup_of (r ∷ rs)) h.3
wrote_setup job RepairJob entry rs h = ap (λ (r : Record). setup_of (r ∷ rs)) h.1
wrote_setup job UpgradeJob entry rs h = ap (λ (r : Record). setup_of (r ∷ rs)) h
wrote_setup job kind entry rs (inl h) = ap (λ (r : Record). setup_of (r ∷ rs)) h.1

-- a put's end is written by a put that has its number
wrote_done : (job : Job) (kind : Kind) (entry : Record) (id : ℕ) → Wrote job kind entry →
    put_ended entry ≡ Some id → Draws objects kind × (4 ≤ job.place) × (job.subject ≡ id)
wrote_done job (PutJob name bytes) entry id (inr h) e = (let f : Some job.subject ≡ Some id = sym
    (ap put_ended h.1.1 ∙ done-ended h.1.0 job.subject (length bytes) job.profile) ∙ e in
    (tt, h.0, (let g : job.subject ≡ id = cc in g)))
wrote_done job (GetJob name) entry id h e = absurd h
wrote_done job (DropJob name) entry id h e = (let f : None ≡ Some id = sym (ap put_ended h) ∙ e in cc)
wrote_done job AuditJob entry id (inr h) e = (let f : None ≡ Some id = sym (ap put_ended h.3) ∙ e in cc)
wrote_done job RepairJob entry id h e = (let f : None ≡ Some id = sym (ap put_ended h.1) ∙ e in cc)
wrote_done job UpgradeJob entry id h e = (let f : None ≡ Some id = sym (ap put_ended h) ∙ e in cc)
wrote_done job kind entry id (inl h) e = (let f : None ≡ Some id = sym (ap put_ended h.1) ∙ e in cc)

wrote_on : (i j : Job) (kind : Kind) (entry : Record) → j.subject ≡ i.subject → j.profile ≡ i.profile →
    j.place ≡ i.place + 1 → (Draws objects kind → i.place ≡ 3 → ⊥) → Wrote i kind entry → Wrote j kind entry
wrote_on i j (PutJob name bytes) entry subject profile place apart (inl h) = inl (
  (let l = h.0 in elim (cases_eq i.place 3) [ inl e ↦ absurd (apart tt e) | inr n ↦ (omega arith) ]),
  h.1 ∙ ap (λ x. PutStart x name) (sym subject),
)
wrote_on i j (PutJob name bytes) entry subject profile place apart (inr h) = inr (
  (let l = h.0 in omega arith),
  (
    h.1.0,
    h.1.1 ∙ (ap (λ x. done_record h.1.0 x (length bytes) i.profile) (sym subject)
        ∙ ap (λ x. done_record h.1.0 j.subject (length bytes) x) (sym profile)),
  ),
)
wrote_on i j kind entry subject profile place apart h = h

writes_wrote : (w : State) (i j : Job) (kind : Kind) (entry : Record) → j.subject ≡ subject_drawn w i kind →
    j.profile ≡ i.profile → j.place ≡ i.place + 1 → (Draws objects kind → i.place ≡ 3 → ⊥) →
    Writes w i kind entry → Wrote j kind entry
writes_wrote w i j (PutJob name bytes) entry subject profile place apart h = elim (cases_lt i.place 4) [
  | inl l ↦ inl (
    (elim (cases_eq i.place 3) [ inl e ↦ absurd (apart tt e) | inr n ↦ (omega arith) ]),
    h ∙ (cond_true (is_first_append i) (PutStart (next_id w.records) name)
        (done_record (version_of w.records) i.subject (length bytes) i.profile) (first_below i l)
        ∙ ap (λ x. PutStart x name)
        (sym (subject ∙ cond_true (is_first_append i) (next_id w.records) i.subject (first_below i l)))),
  )
  | inr l ↦ inr (
    (omega arith),
    (
      version_of w.records,
      h ∙ (cond_false (is_first_append i) (PutStart (next_id w.records) name)
          (done_record (version_of w.records) i.subject (length bytes) i.profile) (first_above i l)
          ∙ (ap (λ x. done_record (version_of w.records) x (length bytes) i.profile)
          (sym (subject ∙ cond_false (is_first_append i) (next_id w.records) i.subject (first_above i l)))
          ∙ ap (λ x. done_record (version_of w.records) j.subject (length bytes) x) (sym profile))),
    ),
  )
]
writes_wrote w i j (GetJob name) entry subject profile place apart h = absurd h
writes_wrote w i j AuditJob entry subject profile place apart h = elim (cases_Bool (is_first_append i)) [
  | inl t ↦ inl (next_audit w.records, (rw t at h))
  | inr f ↦ (let g = rw f at h in inr (i.subject, g.0.undecided, g.0.counts, g.2))
]
writes_wrote w i j RepairJob entry subject profile place apart h = (i.subject, h)
writes_wrote w i j _ entry subject profile place apart h = h

-- a started number stays so unless its put ends
started_keeps : (rs : List Record) (r : Record) (id : ℕ) (name : List ℕ) → IsProper rs r → id < next_id rs →
    started_as rs id ≡ Some name → (put_ended r ≡ Some id → ⊥) → started_as (r ∷ rs) id ≡ Some name
started_keeps rs (PutStart k n) id name proper l h other =
    cond_false (k == id) (Some n) (started_as rs id) (ne_eqb k id (λ e. omega arith)) ∙ h
started_keeps rs (PutDone k size) id name proper l h other =
    cond_false (k == id) None (started_as rs id) (ne_eqb k id (λ e. other (ap Some e))) ∙ h
started_keeps rs (PutDoneIn k size profile) id name proper l h other =
    cond_false (k == id) None (started_as rs id) (ne_eqb k id (λ e. other (ap Some e))) ∙ h
started_keeps rs (Resume next audit) id name proper l h other = absurd proper
started_keeps rs (InEffect k size profile kept) id name proper l h other = absurd proper
started_keeps rs (RepairDue number counts) id name proper l h other = absurd proper
started_keeps rs r id name proper l h other = h

-- what holds
pub record Facts (start : State) (ms : List Moment) : Type 0 where
  pub sound : AreSound (now start ms).records
  pub append_proper : (a : Append) → (now start ms).append ≡ Some a → IsProper (now start ms).records a.entry
  pub doubt_proper : (d : Doubt) → (now start ms).doubt ≡ Some d → IsProper (now start ms).records d.entry
  pub wrote : (a : Append) (j : Job) → (now start ms).append ≡ Some a →
      job_of (now start ms).jobs a.job ≡ Some j → Wrote j j.kind a.entry
  pub started : (k : ℕ) (j : Job) (name bytes : List ℕ) → job_of (now start ms).jobs k ≡ Some j →
      j.kind ≡ PutJob name bytes → 4 ≤ j.place → j.place < 8 + stores_count (now start ms) j bytes →
      started_as (now start ms).records j.subject ≡ Some name
  pub pins : (k : ℕ) (j : Job) (f : Pinned) → job_of (now start ms).jobs k ≡ Some j → In f j.pinned →
      (f.id < next_id (now start ms).records) × (started_as (now start ms).records f.id ≡ None)
  pub older : (k : ℕ) (j : Job) (o : ℕ) → job_of (now start ms).jobs k ≡ Some j → In o j.older →
      (o < next_id (now start ms).records) × (started_as (now start ms).records o ≡ None)
  pub older_out : (k : ℕ) (j : Job) (o : ℕ) (q : List ℕ) (f : File) → job_of (now start ms).jobs k ≡ Some j →
      In o j.older → file_in (now start ms) q ≡ Some f → f.id ≡ o → ⊥
  pub older_free : (k l : ℕ) (j i : Job) (o : ℕ) (f : Pinned) → job_of (now start ms).jobs k ≡ Some j →
      In o j.older → job_of (now start ms).jobs l ≡ Some i → In f i.pinned → f.id ≡ o → ⊥
  pub checks : (k l : ℕ) (j i : Job) → job_of (now start ms).jobs k ≡ Some j →
      job_of (now start ms).jobs l ≡ Some i → is_check (aim_of j.kind) ≡ true →
      is_check (aim_of i.kind) ≡ true → k ≡ l

module _ (limit : ℕ) (start : State) (m : Moment) (ms : List Moment) (N : num.Facts objects start ms)
    (F : Facts start ms) (X : Changes limit (length ms) (now start ms) m.event m.outcome m.state) where
  abbrev old : State
  old = now start ms

  -- how the records went while a job ran on
  pub data Growth : Type 0 where
    none : m.state.records ≡ old.records → Growth
    one : (a : Append) → old.append ≡ Some a → m.state.records ≡ a.entry ∷ old.records → Growth

  growth : (k : ℕ) → Grown old m.state k → Growth
  growth k (Grown.as_before rec) = none rec
  growth k (Grown.by_other x a runs next_is flight mine other rec) = one a flight rec

  -- a number below the next one that is not started stays so
  quiet : Growth → (id : ℕ) → (id < next_id old.records) × (started_as old.records id ≡ None) →
      (id < next_id m.state.records) × (started_as m.state.records id ≡ None)
  quiet (none rec) id h =
      ((let e = ap next_id rec in omega (arith, h.0)), ap (λ rs. started_as rs id) rec ∙ h.1)
  quiet (one a flight rec) id h = (
    (let e = next_of_records objects old m.state N.written X.records in omega (arith, h.0)),
    ap (λ rs. started_as rs id) rec
        ∙ not_started-more old.records a.entry id (F.append_proper a flight) h.0 h.1,
  )

  sound_step : AreSound m.state.records
  sound_step = elim X.records [
    | Records_is.same rec ↦ (rw (← rec) at F.sound)
    | Records_is.finished x a runs next_is flight mine moves rec ↦
        (rw (← rec) at (sound-more old.records a.entry (F.append_proper a flight) F.sound))
    | Records_is.settled d in_doubt rec ↦ (rw (← rec) at (sound-more old.records d.entry
        (F.doubt_proper d in_doubt) F.sound))
    | Records_is.set_up s out rec ↦ (rw (← rec) at (sound-more old.records (SetUp s) tt F.sound))
    | Records_is.settled_set_up s d in_doubt out rec ↦
        (rw (← rec) at (sound-more (d.entry ∷ old.records) (SetUp s) tt
        (sound-more old.records d.entry (F.doubt_proper d in_doubt) F.sound)))
  ]

  proper_on : (r s : Record) → m.state.records ≡ old.records → r ≡ s →
      IsProper old.records s → IsProper m.state.records r
  proper_on r s rec e h = subst (λ rs. IsProper rs r) (sym rec) (rw (← e) at h)

  append_proper_step : (a : Append) → m.state.append ≡ Some a → IsProper m.state.records a.entry
  append_proper_step a h = elim (X.append a h) [
    | Append_is.kept b flight job_is entry rec ↦ proper_on a.entry b.entry rec entry
        (F.append_proper b flight)
    | Append_is.drew i runs next_is mine writes found rec ↦
        proper_on a.entry a.entry rec refl (writes_proper old i i.kind a.entry writes)
  ]

  doubt_proper_step : (d : Doubt) → m.state.doubt ≡ Some d → IsProper m.state.records d.entry
  doubt_proper_step d h = elim (X.doubt d h) [
    | Doubt_is.kept before rec ↦ proper_on d.entry d.entry rec refl (F.doubt_proper d before)
    | Doubt_is.gated a flight entry rec ↦ proper_on d.entry a.entry rec entry (F.append_proper a flight)
    | Doubt_is.set_up s entry ↦ subst (IsProper m.state.records) (sym entry) tt
  ]

  not_three : (i : Job) (action : Action) → next_action old i ≡ Some action →
      (action ≡ SyncGate → ⊥) → Draws objects i.kind → i.place ≡ 3 → ⊥
  not_three i action next_is other d three =
      other (same_value _ action SyncGate next_is (at_three objects old i d three))

  plain_not : (action : Action) → IsPlain action → action ≡ SyncGate → ⊥
  plain_not action h e = subst IsPlain e h

  write_not : WriteBody ≡ SyncGate → ⊥
  write_not e = cc

  wrote_step : (a : Append) (j : Job) → m.state.append ≡ Some a → job_of m.state.jobs a.job ≡ Some j →
      Wrote j j.kind a.entry
  wrote_step a j h hj = elim (X.append a h) [
    | Append_is.kept b flight job_is entry rec ↦ elim (X.job a.job j hj) [
      | Job_is.kept r grown ↦ subst (Wrote j j.kind) (sym entry) (F.wrote b j flight (rw job_is at r))
      | Job_is.begun kind profile is k_is none_ rec2 ↦ absurd (omega (arith, N.holder b flight))
      | Job_is.plain i action runs next_is is_plain goes rec2 st ↦ subst (Wrote j j.kind) (sym entry)
          (subst (λ kind. Wrote j kind b.entry) (sym goes.kind) (wrote_on i j i.kind b.entry goes.subject
          goes.profile goes.place (λ d. not_three i action next_is (plain_not action is_plain) d)
          (F.wrote b i flight (rw job_is at runs))))
      | Job_is.drew i runs next_is none_ is rec2 ↦ absurd (cc (sym none_ ∙ flight))
      | Job_is.finished i c runs next_is flight_c mine is rec2 none_ ↦ absurd (cc (sym none_ ∙ h))
    ]
    | Append_is.drew i runs next_is mine writes found rec ↦
        (let is = same_value _ j _ (rw mine at hj) found in
        (rw (← (ap (λ (x : Job). x.kind) is)) at (writes_wrote old i j i.kind a.entry
        (ap (λ (x : Job). x.subject) is)
        (ap (λ (x : Job). x.profile) is) (ap (λ (x : Job). x.place) is)
        (λ d. not_three i WriteBody next_is write_not d) writes)))
  ]

  -- the setup stays while jobs run
  pub setup_one : (a : Append) (x : Job) → old.append ≡ Some a → job_of old.jobs x.number ≡ Some x →
      a.job ≡ x.number → m.state.records ≡ a.entry ∷ old.records →
      setup_of m.state.records ≡ setup_of old.records
  setup_one a x flight runs mine rec = ap setup_of rec ∙ wrote_setup x x.kind a.entry old.records
      (F.wrote a x flight (subst (λ n. job_of old.jobs n ≡ Some x) (sym mine) runs))

  -- and while one runs on
  pub setup_kept : (k : ℕ) (j : Job) → job_of m.state.jobs k ≡ Some j →
      setup_of m.state.records ≡ setup_of old.records
  setup_kept k j h = elim (X.job k j h) [
    | Job_is.kept r (Grown.as_before rec) ↦ ap setup_of rec
    | Job_is.kept r (Grown.by_other x a runs next_is flight mine other rec) ↦
        setup_one a x flight runs mine rec
    | Job_is.begun kind profile is k_is none_ rec ↦ ap setup_of rec
    | Job_is.plain x action runs next_is is_plain goes rec st ↦ ap setup_of rec
    | Job_is.drew x runs next_is none_ is rec ↦ ap setup_of rec
    | Job_is.finished x a runs next_is flight mine is rec none_ ↦ ap setup_of rec ∙
        wrote_setup x x.kind a.entry old.records (F.wrote a x flight (rw (← mine) at runs))
  ]

  -- while a job runs, the setup in effect stays
  pub setup_stays : (k : ℕ) (j : Job) → job_of m.state.jobs k ≡ Some j → setup_in m.state ≡ setup_in old
  setup_stays k j h = setup_same m.state old (setup_kept k j h)

  started_step : (k : ℕ) (j : Job) (name bytes : List ℕ) → job_of m.state.jobs k ≡ Some j →
      j.kind ≡ PutJob name bytes → 4 ≤ j.place → j.place < 8 + stores_count m.state j bytes →
      started_as m.state.records j.subject ≡ Some name
  started_step k j name bytes h kind late early = elim (X.job k j h) [
    | Job_is.kept r (Grown.as_before rec) ↦ ap (λ rs. started_as rs j.subject) rec
        ∙ F.started k j name bytes r kind late
        (let e = count_same m.state old j j bytes (ap setup_of rec) refl refl in omega arith)
    | Job_is.kept r (Grown.by_other x a runs next_is flight mine other rec) ↦
        (let s0 = F.started k j name bytes r kind late (let e = count_same m.state old j j bytes
        (setup_one a x flight runs mine rec) refl refl in omega arith) in
        let wx = F.wrote a x flight (subst (λ n. job_of old.jobs n ≡ Some x) (sym mine) runs) in
        ap (λ rs. started_as rs j.subject) rec ∙
        started_keeps old.records a.entry j.subject name (F.append_proper a flight)
        (F.sound.started j.subject name s0) s0
        (λ e. (let d = wrote_done x x.kind a.entry j.subject wx e in
        other (N.apart x.number k x j runs r (d.0, d.1)
        (subst (Draws objects) (sym kind) tt, late) d.2))))
    | Job_is.begun kd profile is k_is none_ rec ↦ absurd
        (let e : j.place ≡ 0 = ap (λ (x : Job). x.place) is in omega arith)
    | Job_is.plain i action runs next_is is_plain goes rec st ↦ before_same i runs (sym goes.kind ∙ kind)
        (sym goes.subject) (sym goes.profile) goes.place rec (λ three. not_three i action next_is
        (plain_not action is_plain) (subst (Draws objects) (sym (sym goes.kind ∙ kind)) tt) three)
    | Job_is.drew i runs next_is none_ is rec ↦
        (let ki : i.kind ≡ PutJob name bytes = sym (ap (λ (x : Job). x.kind) is) ∙ kind in
        let place : j.place ≡ i.place + 1 = ap (λ (x : Job). x.place) is in
        let apart : i.place ≡ 3 →
        ⊥ = (λ three. not_three i WriteBody next_is write_not (subst (Draws objects) (sym ki) tt) three) in
        let l : 4 ≤ i.place =
        (elim (cases_eq i.place 3) [ inl e ↦ absurd (apart e) | inr n ↦ (omega arith) ]) in
        before_same i runs ki
        (sym (ap (λ (x : Job). x.subject) is ∙ drawn_later old i i.kind (first_above i l)))
        (sym (ap (λ (x : Job). x.profile) is)) place rec apart)
    | Job_is.finished i a runs next_is flight mine is rec none_ ↦
        (let ki : i.kind ≡ PutJob name bytes = sym (ap (λ (x : Job). x.kind) is) ∙ kind in
        let place : j.place ≡ i.place + 1 = ap (λ (x : Job). x.place) is in
        let subject : j.subject ≡ i.subject = ap (λ (x : Job). x.subject) is in
        let wi : Wrote i (PutJob name bytes) a.entry =
        subst (λ kd. Wrote i kd a.entry) ki
        (F.wrote a i flight (subst (λ n. job_of old.jobs n ≡ Some i) (sym mine) runs)) in
        finished_at i a runs ki next_is place subject (ap (λ (x : Job). x.profile) is) flight mine rec wi)
  ]
    where
      before_same : (i : Job) → job_of old.jobs k ≡ Some i → i.kind ≡ PutJob name bytes →
          i.subject ≡ j.subject → i.profile ≡ j.profile → j.place ≡ i.place + 1 →
          m.state.records ≡ old.records → (i.place ≡ 3 → ⊥) → started_as m.state.records j.subject ≡ Some name
      before_same i runs ki subject profile place rec apart =
          (let l : 4 ≤ i.place =
          (elim (cases_eq i.place 3) [ inl e ↦ absurd (apart e) | inr n ↦ (omega arith) ]) in
          let e = count_same m.state old j i bytes (ap setup_of rec) (sym subject) (sym profile) in
          ap (λ rs. started_as rs j.subject) rec ∙ (ap (started_as old.records) (sym subject)
          ∙ F.started k i name bytes runs ki l (omega arith)))

      finished_at : (i : Job) (a : Append) → job_of old.jobs k ≡ Some i → i.kind ≡ PutJob name bytes →
          next_action old i ≡ Some SyncGate → j.place ≡ i.place + 1 → j.subject ≡ i.subject →
          j.profile ≡ i.profile → old.append ≡ Some a → a.job ≡ k → m.state.records ≡ a.entry ∷ old.records →
          Wrote i (PutJob name bytes) a.entry → started_as m.state.records j.subject ≡ Some name
      finished_at i a runs ki next_is place subject profile flight mine rec (inl w) =
          ap (λ rs. started_as rs j.subject) (rec ∙ ap (λ (r : Record). r ∷ old.records) w.1)
          ∙ cond_true (i.subject == j.subject) (Some name) (started_as old.records j.subject)
          (eq-eqb i.subject j.subject (sym subject))
      finished_at i a runs ki next_is place subject profile flight mine rec (inr w) =
          absurd (let g = gate_place old i name bytes ki next_is w.0 in let s = ap setup_of rec
          ∙ wrote_setup i (PutJob name bytes) a.entry old.records (inr w) in
          let e = count_same m.state old j i bytes s subject profile in omega arith)

  -- how a job came by the files that it works on, and by the object that it takes away
  pub data Pins_is (k : ℕ) (j : Job) : Type 0 where
    had : (i : Job) → job_of old.jobs k ≡ Some i → j.pinned ≡ i.pinned → j.kind ≡ i.kind →
        j.begun ≡ i.begun → Growth → Pins_is k j
    new_one : (kind : Kind) (wish : Option ℕ) → j ≡ beginning old (length ms) kind wish → k ≡ old.next_job →
        refusal_of_begin limit old kind wish ≡ None → m.state.records ≡ old.records → Pins_is k j

  -- each running job came by its files in one of these two ways
  pub pins_is : (k : ℕ) (j : Job) → job_of m.state.jobs k ≡ Some j → Pins_is k j
  pins_is k j h = elim (X.job k j h) [
    | Job_is.kept r grown ↦ had j r refl refl refl (growth k grown)
    | Job_is.begun kind profile is k_is allowed rec ↦ new_one kind profile is k_is allowed rec
    | Job_is.plain i action runs next_is is_plain goes rec st ↦
        had i runs goes.pinned goes.kind goes.begun (none rec)
    | Job_is.drew i runs next_is none_ is rec ↦ had i runs (ap (λ (x : Job). x.pinned) is)
        (ap (λ (x : Job). x.kind) is) (ap (λ (x : Job). x.begun) is) (none rec)
    | Job_is.finished i a runs next_is flight mine is rec none_ ↦ had i runs (ap (λ (x : Job). x.pinned) is)
        (ap (λ (x : Job). x.kind) is) (ap (λ (x : Job). x.begun) is) (one a flight rec)
  ]

  -- a file that a new job works on is in effect
  new_pin : (j : Job) (kind : Kind) (wish : Option ℕ) (f : Pinned) →
      j ≡ beginning old (length ms) kind wish → In f j.pinned → Stands old f
  new_pin j kind wish f is i = pinned_stands old kind f (subst (λ (x : Job). In f x.pinned) is i)

  -- the number of a file in effect is drawn, and its put is done
  pub stands_quiet : (f : Pinned) → Stands old f →
      (f.id < next_id old.records) × (started_as old.records f.id ≡ None)
  stands_quiet f s = (let p = F.sound.file s.name s.file s.in_effect in let e : f.id ≡ s.file.id =
      ap (λ (x : Pinned). x.id) s.is in ((let l = p.0 in omega arith), ap (started_as old.records) e ∙ p.1))

  pins_step : (k : ℕ) (j : Job) (f : Pinned) → job_of m.state.jobs k ≡ Some j → In f j.pinned →
      (f.id < next_id m.state.records) × (started_as m.state.records f.id ≡ None)
  pins_step k j f h i = elim (pins_is k j h) [
    | had x runs pinned kind begun g ↦ quiet g f.id (F.pins k x f runs (subst (In f) pinned i))
    | new_one kind wish is k_is allowed rec ↦ quiet (none rec) f.id
        (stands_quiet f (new_pin j kind wish f is i))
  ]

  -- a job had the object that it takes away before the event, or its append has now decided on it
  pub data Older_is (k : ℕ) (j : Job) (o : ℕ) : Type 0 where
    had : (i : Job) → job_of old.jobs k ≡ Some i → In o i.older → Growth → Older_is k j o
    decided : (i : Job) (a : Append) (name : List ℕ) → job_of old.jobs k ≡ Some i →
        next_action old i ≡ Some SyncGate → old.append ≡ Some a → a.job ≡ k →
        m.state.records ≡ a.entry ∷ old.records → Takes i i.kind name → Taken old i name o → Older_is k j o

  older_is : (k : ℕ) (j : Job) (o : ℕ) → job_of m.state.jobs k ≡ Some j → In o j.older → Older_is k j o
  older_is k j o h i = elim (X.job k j h) [
    | Job_is.kept r grown ↦ Older_is.had j r i (growth k grown)
    | Job_is.begun kind profile is k_is allowed rec ↦ absurd (rw is at i)
    | Job_is.plain x action runs next_is is_plain goes rec st ↦
        Older_is.had x runs (rw goes.older at i) (none rec)
    | Job_is.drew x runs next_is none_ is rec ↦ Older_is.had x runs (rw is at i) (none rec)
    | Job_is.finished x a runs next_is flight mine is rec none_ ↦
        (let t = taken old x x.kind o (rw is at i) in
        Older_is.decided x a t.0 runs next_is flight mine rec t.1 t.2)
  ]

  older_step : (k : ℕ) (j : Job) (o : ℕ) → job_of m.state.jobs k ≡ Some j → In o j.older →
      (o < next_id m.state.records) × (started_as m.state.records o ≡ None)
  older_step k j o h i = elim (older_is k j o h i) [
    | Older_is.had x runs in_ g ↦ quiet g o (F.older k x o runs in_)
    | Older_is.decided x a name runs next_is flight mine rec takes t ↦
        quiet (one a flight rec) o (let p = F.sound.file name t.file t.in_effect in (
          (let l = p.0 in let e = t.id_is in omega arith),
          ap (started_as old.records) (sym t.id_is) ∙ p.1,
        ))
  ]

  -- a file in effect now was so before, or its number was started
  came_or_stood : Growth → (q : List ℕ) (f : File) → file_in m.state q ≡ Some f →
      (file_in old q ≡ Some f) ⊎ (started_as old.records f.id ≡ Some q)
  came_or_stood (none rec) q f h = inl (ap (λ rs. file_of rs q) (sym rec) ∙ h)
  came_or_stood (one a flight rec) q f h = file-more old.records a.entry q f
      (F.append_proper a flight) (ap (λ rs. file_of rs q) (sym rec) ∙ h)

  -- what a job has just taken out of effect is out
  out_now : (k : ℕ) (x : Job) (a : Append) (name : List ℕ) (o : ℕ) (q : List ℕ) (f : File) →
      job_of old.jobs k ≡ Some x → next_action old x ≡ Some SyncGate → (kind : Kind) →
      x.kind ≡ kind → Wrote x kind a.entry → Takes x kind name → Taken old x name o →
      m.state.records ≡ a.entry ∷ old.records → file_in old q ≡ Some f →
      file_in m.state q ≡ Some f → f.id ≡ o → ⊥
  out_now k x a name o q f runs next_is (PutJob n bytes) kind (inl w) takes t rec stood h e =
      absurd (let l = w.0 in omega (arith, takes.0))
  out_now k x a name o q f runs next_is (PutJob n bytes) kind (inr w) takes t rec stood h e =
      (let q_is = F.sound.one_name q name f t.file stood t.in_effect (e ∙ sym t.id_is) in
      let place = gate_place old x n bytes kind next_is w.0 in let st =
      F.started k x n bytes runs kind w.0 (omega arith) in
      let file = file_as q x.subject (length bytes) (profile_done w.1.0 old.records x.profile) in let same =
      same_value _ f _ h (ap (λ rs. file_of rs q) (rec
      ∙ ap (λ r. r ∷ old.records) w.1.1) ∙ (done-file w.1.0 x.subject (length bytes) x.profile
      old.records q ∙ cond_true (is_start_of q (started_as old.records x.subject)) (Some file)
      (file_of old.records q)
      (ap (is_start_of q) st ∙ (ap (is_same_name n) (q_is ∙ sym takes.1) ∙ same-refl n)))) in
      let z = sym (F.sound.file q f stood).1 ∙ (ap (started_as old.records)
      (ap (λ (y : File). y.id) same) ∙ st) in cc)
  out_now k x a name o q f runs next_is (DropJob n) kind w takes t rec stood h e =
      (let q_is = F.sound.one_name q name f t.file stood t.in_effect (e ∙ sym t.id_is) in
      let z =
      sym (ap (λ rs. file_of rs q) (rec ∙ ap (λ r. r ∷ old.records) w) ∙
      (cond_true (is_same_name n q) None (file_of old.records q)
      (ap (is_same_name n) (q_is ∙ sym takes) ∙ same-refl n))) ∙ h in
      cc)
  out_now k x a name o q f runs next_is (GetJob n) kind w takes t rec stood h e = w
  out_now k x a name o q f runs next_is d kind w takes t rec stood h e = takes

  older_out_step : (k : ℕ) (j : Job) (o : ℕ) (q : List ℕ) (f : File) → job_of m.state.jobs k ≡ Some j →
      In o j.older → file_in m.state q ≡ Some f → f.id ≡ o → ⊥
  older_out_step k j o q f h i hf e = elim (older_is k j o h i) [
    | Older_is.had x runs in_ g ↦ elim (came_or_stood g q f hf) [
      | inl stood ↦ F.older_out k x o q f runs in_ stood e
      | inr st ↦ (let p = (F.older k x o runs in_).1 in cc (sym p
          ∙ (ap (started_as old.records) (sym e) ∙ st)))
    ]
    | Older_is.decided x a name runs next_is flight mine rec takes t ↦
        elim (came_or_stood (one a flight rec) q f hf) [
          | inl stood ↦ out_now k x a name o q f runs next_is x.kind refl
              (F.wrote a x flight (rw (← mine) at runs)) takes t rec stood hf e
          | inr st ↦ (let p = (F.sound.file name t.file t.in_effect).1 in cc (sym p
              ∙ (ap (started_as old.records) (t.id_is ∙ sym e) ∙ st)))
        ]
  ]

  longer : (r : Record) (rs : List Record) → rs ≡ r ∷ rs → ⊥
  longer r rs e = (let l : length rs ≡ suc (length rs) = ap length e in omega arith)

  older_free_step : (k l : ℕ) (j i : Job) (o : ℕ) (f : Pinned) → job_of m.state.jobs k ≡ Some j →
      In o j.older → job_of m.state.jobs l ≡ Some i → In f i.pinned → f.id ≡ o → ⊥
  older_free_step k l j i o f hj io hi in_f e = elim (older_is k j o hj io) [
    | Older_is.had x runs in_ g ↦ elim (pins_is l i hi) [
      | Pins_is.had y runs_y pinned kind begun g2 ↦ F.older_free k l x y o f runs in_ runs_y
          (subst (In f) pinned in_f) e
      | Pins_is.new_one kind wish is l_is allowed rec ↦ (let s = new_pin i kind wish f is in_f in
          F.older_out k x o s.name s.file runs in_ s.in_effect (sym (ap (λ (z : Pinned). z.id) s.is) ∙ e))
    ]
    | Older_is.decided x a name runs next_is flight mine rec takes t ↦ elim (pins_is l i hi) [
      | Pins_is.had y runs_y pinned kind begun g2 ↦ not_pinned old l y f o t.free runs_y
          (subst (In f) pinned in_f) e
      | Pins_is.new_one kind wish is l_is allowed rec2 ↦ longer a.entry old.records (sym rec2 ∙ rec)
    ]
  ]

  checks_step : (k l : ℕ) (j i : Job) → job_of m.state.jobs k ≡ Some j → job_of m.state.jobs l ≡ Some i →
      is_check (aim_of j.kind) ≡ true → is_check (aim_of i.kind) ≡ true → k ≡ l
  checks_step k l j i hj hi cj ci = elim (pins_is k j hj) [
    | Pins_is.had x runs pinned kind begun g ↦ elim (pins_is l i hi) [
      | Pins_is.had y runs_y pinned_y kind_y begun_y g2 ↦
          F.checks k l x y runs runs_y (ap (λ kd. is_check (aim_of kd)) (sym kind) ∙ cj)
          (ap (λ kd. is_check (aim_of kd)) (sym kind_y) ∙ ci)
      | Pins_is.new_one kd wish is l_is allowed rec ↦ absurd (false≢true
          (sym (check_alone limit old kd wish allowed
          (ap (λ kd. is_check (aim_of kd)) (sym (ap (λ (z : Job). z.kind) is)) ∙ ci) k x runs)
          ∙ (ap (λ kd. is_check (aim_of kd)) (sym kind) ∙ cj)))
    ]
    | Pins_is.new_one kd wish is k_is allowed rec ↦ elim (pins_is l i hi) [
      | Pins_is.had y runs_y pinned_y kind_y begun_y g2 ↦ absurd (false≢true
          (sym (check_alone limit old kd wish allowed
          (ap (λ kd. is_check (aim_of kd)) (sym (ap (λ (z : Job). z.kind) is)) ∙ cj) l y runs_y)
          ∙ (ap (λ kd. is_check (aim_of kd)) (sym kind_y) ∙ ci)))
      | Pins_is.new_one kd2 wish2 is2 l_is allowed2 rec2 ↦ k_is ∙ sym l_is
    ]
  ]

  -- these facts hold after one more event
  pub step_facts : Facts start (m ∷ ms)
  step_facts = record {
    sound = sound_step;
    append_proper = append_proper_step;
    doubt_proper = doubt_proper_step;
    wrote = wrote_step;
    started = started_step;
    pins = pins_step;
    older = older_step;
    older_out = older_out_step;
    older_free = older_free_step;
    checks = checks_step;
  }

start_sound : (rs : List Record) → AreFirst rs → AreSound rs
start_sound rs (inl e) = subst AreSound (sym e) sound-none
start_sound rs (inr h) = subst AreSound (sym h.2) (sound-more [] (SetUp h.0) tt sound-none)

-- these facts hold before the first event
pub start_facts : (start : State) → IsStart start → Facts start []
start_facts start clean = record {
  sound = start_sound start.records clean.records;
  append_proper = λ a h. absurd (let e : None ≡ Some a = sym clean.append ∙ h in cc);
  doubt_proper = λ d h. absurd (let e : None ≡ Some d = sym clean.doubt ∙ h in cc);
  wrote = λ a j h g. absurd (found_none start.jobs a.job j clean.jobs g);
  started = λ k j name bytes h kind late early. absurd (found_none start.jobs k j clean.jobs h);
  pins = λ k j f h i. absurd (found_none start.jobs k j clean.jobs h);
  older = λ k j o h i. absurd (found_none start.jobs k j clean.jobs h);
  older_out = λ k j o q f h i g e. found_none start.jobs k j clean.jobs h;
  older_free = λ k l j i o f h io g in_f e. found_none start.jobs k j clean.jobs h;
  checks = λ k l j i h g cj ci. absurd (found_none start.jobs k j clean.jobs h);
}
