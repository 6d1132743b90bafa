-- While the journal has its first version, each put that runs has the profile of the setup.
use Rattle.machine_defs.proofs.Words.{◌≡◌, ◌≤◌, false, Bool, refl, ap, sym, subst, ◌∙◌, inl, inr, arith, nat_lt, nat_le, not, cases_Bool, cases_eq, eq-eqb, false≢true, Record, Setup, PutStart, Version, is_name, largest_file, all_profiles, setup_of, version_of, profile_in, next_id, PutJob, aim_of, Job, job_of, setup_or_none, State, Append, IsStart, setup_in, refusal_of_begin, chosen, sight_of, is_busy, Writes, done_record, is_first_append, Action, WriteBody, SyncGate, next_action, Moment, now, IsRun}
use Rattle.std.proofs.Common.{ℕ, ◌+◌, ◌==◌, true, List, [], ◌∷◌, length, Option, Some, None}
use Rattle.machine_defs.proofs.JobLists.{number_of, cond_false, same_value, found_none}
use Rattle.machine_defs.proofs.Changes.{IsPlain, Grown, Job_is, Append_is, Changes}
use Rattle.machine_defs.proofs.Events.{changes}
use Rattle.machine_defs.proofs.Numbers.{objects, Draws, at_three, drawn_later, first_above}
use Rattle.machine_defs.proofs.Numbers as num
use Rattle.machine_defs.proofs.PinFacts.{setup_one}
use Rattle.machine_defs.proofs.PinFacts as pin
use Rattle.machine_defs.proofs.Held.{all}

-- a journal that has not its second version has the first
first_version : (rs : List Record) → (version_of rs == 2) ≡ false → version_of rs ≡ 1
first_version [] h = refl
first_version (Version ∷ rs) h = absurd (false≢true (sym h))
first_version (r ∷ rs) h = first_version rs h

-- a version that is not the second now was not so before
version_less : (r : Record) (rs : List Record) → (version_of (r ∷ rs) == 2) ≡ false →
    (version_of rs == 2) ≡ false
version_less Version rs h = absurd (false≢true (sym h))
version_less r rs h = h

-- a put that begins in the first version names no profile
none_named : (limit : ℕ) (w : State) (name bytes : List ℕ) (profile : Option ℕ) →
    refusal_of_begin limit w (PutJob name bytes) profile ≡ None → (version_of w.records == 2) ≡ false →
    profile ≡ None
none_named limit w name bytes None h first = refl
none_named limit w name bytes (Some p) h first = absurd
    (by w.is_barred (is_busy limit (sight_of w) (aim_of (PutJob name bytes))) (not (is_name name))
    (nat_le all_profiles p) (nat_lt largest_file (length bytes)) h)
  where
    one : (version_of w.records == 1) ≡ true
    one = eq-eqb (version_of w.records) 1 (first_version w.records first)

    by : (a b c d e : Bool) → refusal_of_begin limit w (PutJob name bytes) (Some p) ≡ None → ⊥
    by a b c d e h = elim (cases_Bool w.is_barred) [
      | inl t ↦ (let g = rw t at h in cc g)
      | inr o1 ↦ elim (cases_Bool (is_busy limit (sight_of w) (aim_of (PutJob name bytes)))) [
        | inl t ↦ (let g = rw (o1, t) at h in cc g)
        | inr o2 ↦ elim (cases_Bool (is_name name)) [
          | inr t ↦ (let g = rw (o1, o2, t) at h in cc g)
          | inl o3 ↦ elim (cases_Bool (nat_le all_profiles p)) [
            | inl t ↦ (let g = rw (o1, o2, o3, t) at h in cc g)
            | inr o4 ↦ elim (cases_Bool (nat_lt largest_file (length bytes))) [
              | inl t ↦ (let g = rw (o1, o2, o3, o4, t) at h in cc g)
              | inr o5 ↦ (let g = rw (o1, o2, o3, o4, o5, one) at h in cc g)
            ]
          ]
        ]
      ]
    ]

-- the profile of the setup in effect
pub setup_profile : (w : State) → (setup_in w).profile ≡ profile_in (setup_of w.records)
unfolding setup_in
setup_profile w = by (setup_of w.records)
  where
    by : (o : Option Setup) → (setup_or_none o).profile ≡ profile_in o
    by None = refl
    by (Some s) = refl

-- what a put's end has of its profile
pub record Ended (rs : List Record) (job : Job) (bytes : List ℕ) (entry : Record) : Type 0 where
  pub version : ℕ
  pub entry_is : entry ≡ done_record version job.subject (length bytes) job.profile
  pub profiled : (version == 2) ≡ false → job.profile ≡ profile_in (setup_of rs)

-- what holds at each moment: the profiles of the puts that run, and of the ends that they write
pub record Facts (start : State) (ms : List Moment) : Type 0 where
  pub plain : (k : ℕ) (j : Job) (name bytes : List ℕ) → job_of (now start ms).jobs k ≡ Some j →
      j.kind ≡ PutJob name bytes → (version_of (now start ms).records == 2) ≡ false →
      j.profile ≡ profile_in (setup_of (now start ms).records)
  pub ended : (a : Append) (j : Job) (name bytes : List ℕ) → (now start ms).append ≡ Some a →
      job_of (now start ms).jobs a.job ≡ Some j → j.kind ≡ PutJob name bytes → 4 ≤ j.place →
      Ended (now start ms).records j bytes a.entry

module _ (limit : ℕ) (start : State) (m : Moment) (ms : List Moment) (N : num.Facts objects start ms)
    (P : pin.Facts start ms) (F : Facts start ms)
    (X : Changes limit (length ms) (now start ms) m.event m.outcome m.state) where
  abbrev old : State
  old = now start ms

  same_first : m.state.records ≡ old.records → (version_of m.state.records == 2) ≡ false →
      (version_of old.records == 2) ≡ false
  same_first rec first = ap (λ rs. version_of rs == 2) (sym rec) ∙ first

  plain_step : (k : ℕ) (j : Job) (name bytes : List ℕ) → job_of m.state.jobs k ≡ Some j →
      j.kind ≡ PutJob name bytes → (version_of m.state.records == 2) ≡ false →
      j.profile ≡ profile_in (setup_of m.state.records)
  plain_step k j name bytes h kind first = elim (X.job k j h) [
    | Job_is.kept r (Grown.as_before rec) ↦ F.plain k j name bytes r kind (same_first rec first)
        ∙ ap (λ rs. profile_in (setup_of rs)) (sym rec)
    | Job_is.kept r (Grown.by_other x a runs next_is flight mine other rec) ↦
        F.plain k j name bytes r kind
        (version_less a.entry old.records (ap (λ rs. version_of rs == 2) (sym rec) ∙ first))
        ∙ ap profile_in (sym (setup_one limit start m ms N P X a x flight runs mine rec))
    | Job_is.begun kd wish is k_is allowed rec ↦ (let kind_is = sym (ap (λ x. x.kind) is) ∙ kind in
        let none = none_named limit old name bytes wish (rw kind_is at allowed) (same_first rec first) in
        ap (λ x. x.profile) is ∙ (ap (chosen (setup_in old)) none
        ∙ (setup_profile old ∙ ap (λ rs. profile_in (setup_of rs)) (sym rec))))
    | Job_is.plain x action runs next_is is_plain goes rec st ↦
        goes.profile ∙ (F.plain k x name bytes runs (sym goes.kind ∙ kind) (same_first rec first)
        ∙ ap (λ rs. profile_in (setup_of rs)) (sym rec))
    | Job_is.drew x runs next_is none_ is rec ↦ ap (λ y. y.profile) is
        ∙ (F.plain k x name bytes runs (sym (ap (λ y. y.kind) is) ∙ kind) (same_first rec first)
        ∙ ap (λ rs. profile_in (setup_of rs)) (sym rec))
    | Job_is.finished x a runs next_is flight mine is rec none_ ↦ (let number = number_of old.jobs k x runs in
        ap (λ y. y.profile) is
        ∙ (F.plain k x name bytes runs (sym (ap (λ y. y.kind) is) ∙ kind)
        (version_less a.entry old.records (ap (λ rs. version_of rs == 2) (sym rec) ∙ first))
        ∙ ap profile_in (sym (setup_one limit start m ms N P X a x flight
        (rw (← number) at runs) (mine ∙ sym number) rec))))
  ]

  ended_step : (a : Append) (j : Job) (name bytes : List ℕ) → m.state.append ≡ Some a →
      job_of m.state.jobs a.job ≡ Some j → j.kind ≡ PutJob name bytes → 4 ≤ j.place →
      Ended m.state.records j bytes a.entry
  ended_step a j name bytes h hj kind late = elim (X.append a h) [
    | Append_is.kept b flight job_is entry rec ↦ elim (X.job a.job j hj) [
      | Job_is.kept r grown ↦ carried b entry rec j (F.ended b j name bytes flight
          (subst (λ n. job_of old.jobs n ≡ Some j) job_is r) kind late) refl refl
      | Job_is.begun kd wish is k_is none_ rec2 ↦ absurd (let l = N.holder b flight in omega arith)
      | Job_is.plain x action runs next_is is_plain goes rec2 st ↦ carried b entry rec x
          (F.ended b x name bytes flight (subst (λ n. job_of old.jobs n ≡ Some x) job_is runs)
          (sym goes.kind ∙ kind)
          (later x action next_is (sym goes.kind ∙ kind) is_plain (omega (arith, goes.place, late))))
          goes.subject goes.profile
      | Job_is.drew x runs next_is none_ is rec2 ↦ absurd (let e : None ≡ Some b = sym none_ ∙ flight in cc)
      | Job_is.finished x c runs next_is flight_c mine is rec2 none_ ↦
          absurd (let e : None ≡ Some a = sym none_ ∙ h in cc)
    ]
    | Append_is.drew x runs next_is mine writes found rec ↦
        (let is = same_value _ j _ (subst (λ n. job_of m.state.jobs n ≡ Some j) mine hj) found in
        let kx : x.kind ≡ PutJob name bytes = sym (ap (λ (y : Job). y.kind) is) ∙ kind in
        let place : j.place ≡ x.place + 1 = ap (λ (y : Job). y.place) is in
        let l : 4 ≤ x.place = (elim (cases_eq x.place 3) [
          | inl e ↦ absurd (let z : WriteBody ≡ SyncGate =
              same_value _ WriteBody SyncGate next_is
              (at_three objects old x (subst (Draws objects) (sym kx) tt) e) in cc)
          | inr n ↦ omega arith
        ]) in
        let w : Writes old x (PutJob name bytes) a.entry =
        subst (λ kd. Writes old x kd a.entry) kx writes in
        drawn_now x name bytes a.entry rec (ap (λ (y : Job). y.subject) is
        ∙ drawn_later old x x.kind (first_above x l)) (ap (λ (y : Job). y.profile) is)
        (w ∙ cond_false (is_first_append x) (PutStart (next_id old.records) name)
        (done_record (version_of old.records) x.subject (length bytes) x.profile) (first_above x l))
        (λ first. F.plain x.number x name bytes runs kx first))
  ]
    where
      later : (x : Job) (action : Action) → next_action old x ≡ Some action →
          x.kind ≡ PutJob name bytes → IsPlain action → 4 ≤ x.place + 1 → 4 ≤ x.place
      later x action next_is kx is_plain l = elim (cases_eq x.place 3) [
        | inl e ↦ absurd (subst IsPlain (same_value _ action SyncGate next_is
            (at_three objects old x (subst (Draws objects) (sym kx) tt) e)) is_plain)
        | inr n ↦ omega arith
      ]

      carried : (b : Append) → a.entry ≡ b.entry → m.state.records ≡ old.records → (x : Job) →
          Ended old.records x bytes b.entry → j.subject ≡ x.subject → j.profile ≡ x.profile →
          Ended m.state.records j bytes a.entry
      carried b entry rec x e subject profile = record {
        version = e.version;
        entry_is = entry ∙ (e.entry_is
            ∙ (ap (λ n. done_record e.version n (length bytes) x.profile) (sym subject)
            ∙ ap (λ p. done_record e.version j.subject (length bytes) p) (sym profile)));
        profiled = λ first. profile ∙ (e.profiled first ∙ ap (λ rs. profile_in (setup_of rs)) (sym rec));
      }

      drawn_now : (x : Job) (n b : List ℕ) (entry : Record) → m.state.records ≡ old.records →
          j.subject ≡ x.subject → j.profile ≡ x.profile →
          entry ≡ done_record (version_of old.records) x.subject (length b) x.profile →
          ((version_of old.records == 2) ≡ false →
          x.profile ≡ profile_in (setup_of old.records)) → Ended m.state.records j b entry
      drawn_now x n b entry rec subject profile is plain = record {
        version = version_of old.records;
        entry_is = is ∙ (ap (λ s. done_record (version_of old.records) s (length b) x.profile) (sym subject) ∙
            ap (λ p. done_record (version_of old.records) j.subject (length b) p) (sym profile));
        profiled = λ first. profile ∙ (plain first ∙ ap (λ rs. profile_in (setup_of rs)) (sym rec));
      }

  -- these facts hold after one more event
  pub step_facts : Facts start (m ∷ ms)
  step_facts = record { plain = plain_step; ended = ended_step }

-- these facts hold at each moment of a run
pub facts : (limit : ℕ) (start : State) → IsStart start → (ms : List Moment) → IsRun limit start ms →
    Facts start ms
facts limit start clean [] run = record {
  plain = λ k j name bytes h kind first. absurd (found_none start.jobs k j clean.jobs h);
  ended = λ a j name bytes h hj kind late. absurd (found_none start.jobs a.job j clean.jobs hj);
}
facts limit start clean (m ∷ ms) run = (let A = all limit start clean ms run.2 in
    step_facts limit start m ms A.numbers A.pins (facts limit start clean ms run.2)
    (changes limit (length ms) (now start ms) m.event m.outcome m.state A.numbers.idle run.1))
