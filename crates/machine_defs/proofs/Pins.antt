-- Files in effect, files that jobs work on, and objects that they take away.
use Rattle.machine_defs.proofs.Words.{◌≡◌, ◌≤◌, Bool, false, ◌⊎◌, refl, ap, sym, subst, ◌∙◌, inl, inr, nat_lt, list_any, eq-eqb, cases_Bool, cases_lt, false≢true, Record, PutStart, Drop, AuditStart, AuditDone, RepairDone, Version, File, next_id, files_of, version_of, Kind, PutJob, GetJob, DropJob, AuditJob, RepairJob, UpgradeJob, Aim, ToPut, aim_of, Pinned, Job, job_of, machine_pins, State, file_in, refusal_of_begin, pinned_file, pin_by, pin_all, pin_found, pinned_for, aims_of, sight_of, is_check, is_put_or_check, is_shut, are_jobs_in_the_way, Writes, is_first_append, is_pinned, removable, taken_out, done_record, In}
use Rattle.std.proofs.Common.{ℕ, ◌<◌, ◌==◌, true, List, [], ◌∷◌, length, Option, Some, None}
use Rattle.machine_defs.proofs.Done.{by_version}
use Rattle.machine_defs.proofs.Refused.{not_busy, right_false}
use Rattle.machine_defs.proofs.JobLists.{cond_true, cond_false, same_value}
use Rattle.machine_defs.proofs.Sights.{any-aims}
use Rattle.machine_defs.proofs.Numbers.{first_above, first_below}
use Rattle.machine_defs.proofs.RecordFacts.{IsProper, listed_file}

-- ---- what begins pin

in_pin : (p : Pinned) (ps : List Pinned) (f : Pinned) → In f (pin_by machine_pins p ps) → (f ≡ p) ⊎ In f ps
in_pin p [] f (inl e) = inl e
in_pin p [] f (inr i) = absurd i
in_pin p (q ∷ qs) f h = elim (cases_Bool (nat_lt p.id q.id)) [
  | inl t ↦ here (rw (cond_true (nat_lt p.id q.id) (p ∷ q ∷ qs) (q ∷ pin_by machine_pins p qs) t) at h)
  | inr o ↦ later (in_pin p qs f)
      (rw (cond_false (nat_lt p.id q.id) (p ∷ q ∷ qs) (q ∷ pin_by machine_pins p qs) o) at h)
]
  where
    here : In f (p ∷ q ∷ qs) → (f ≡ p) ⊎ In f (q ∷ qs)
    here (inl e) = inl e
    here (inr i) = inr i

    later : (In f (pin_by machine_pins p qs) → (f ≡ p) ⊎ In f qs) → In f (q ∷ pin_by machine_pins p qs) →
        (f ≡ p) ⊎ In f (q ∷ qs)
    later rest (inl e) = inr (inl e)
    later rest (inr i) = elim (rest i) [ inl e ↦ inl e | inr k ↦ inr (inr k) ]

-- a file that is pinned is in effect
pub record Stands (w : State) (f : Pinned) : Type 0 where
  pub name : List ℕ
  pub file : File
  pub in_effect : file_in w name ≡ Some file
  pub is : f ≡ pinned_file w file

-- each pin of some files is that of one of them
pub in_all : (w : State) (fs : List File) (f : Pinned) → In f (pin_all w fs) →
    (g : File) × In g fs × (f ≡ pinned_file w g)
in_all w [] f h = absurd h
in_all w (g ∷ gs) f h = elim (in_pin (pinned_file w g) (pin_all w gs) f h) [
  | inl e ↦ (g, inl refl, e)
  | inr i ↦ (let r = in_all w gs f i in (r.0, inr r.1, r.2))
]

-- each pin of all files in effect stands for one in effect
pub in_effect_all : (w : State) (f : Pinned) → In f (pin_all w (files_of w.records)) → Stands w f
in_effect_all w f h = (let r = in_all w (files_of w.records) f h in
    record { name = r.0.name; file = r.0; in_effect = listed_file w.records r.0 r.1; is = r.2 })

in_effect_one : (w : State) (name : List ℕ) (o : Option File) (f : Pinned) → file_in w name ≡ o →
    In f (pin_found (pinned_file w) o) → Stands w f
in_effect_one w name None f is h = absurd h
in_effect_one w name (Some g) f is (inl e) = record { name = name; file = g; in_effect = is; is = e }
in_effect_one w name (Some g) f is (inr i) = absurd i

-- each file that a job begins with is in effect
pub pinned_stands : (w : State) (kind : Kind) (f : Pinned) → In f (pinned_for w kind) → Stands w f
pinned_stands w (PutJob name bytes) f h = absurd h
pinned_stands w (GetJob name) f h = in_effect_one w name (file_in w name) f refl h
pinned_stands w (DropJob name) f h = absurd h
pinned_stands w UpgradeJob f h = absurd h
pinned_stands w kind f h = in_effect_all w f h

-- ---- what is pinned is not taken away

any_pinned : (ps : List Pinned) (id : ℕ) (f : Pinned) → In f ps → f.id ≡ id →
    list_any (λ (p : Pinned). p.id == id) ps ≡ true
any_pinned [] id f h e = absurd h
any_pinned (p ∷ ps) id f (inl i) e = elim (cases_Bool (p.id == id)) [
  | inl t ↦ rw t refl
  | inr o ↦ absurd (false≢true (sym o ∙ eq-eqb p.id id (sym (ap (λ (x : Pinned). x.id) i) ∙ e)))
]
any_pinned (p ∷ ps) id f (inr i) e =
    (let r = any_pinned ps id f i e in elim (cases_Bool (p.id == id)) [ inl t ↦ rw t refl | inr o ↦ rw o r ])

-- where no job passes a test, the job of a number does not
pub any_job : (test : Job → Bool) (js : List Job) (k : ℕ) (j : Job) → job_of js k ≡ Some j →
    list_any test js ≡ false → test j ≡ false
any_job test [] k j h none = (cc h)
any_job test (x ∷ js) k j h none = elim (cases_Bool (test x)) [
  | inl t ↦ absurd (false≢true (sym none ∙ (rw t refl)))
  | inr o ↦ elim (cases_Bool (x.number == k)) [
    | inl t ↦ (ap test (sym (same_value _ x j (cond_true _ (Some x) (job_of js k) t) h)) ∙ o)
    | inr n ↦ any_job test js k j (sym (cond_false _ (Some x) (job_of js k) n) ∙ h) (rw o at none)
  ]
]

-- the aim of a running job, where no aim passes a test
pub any_aim : (test : Aim → Bool) (js : List Job) (k : ℕ) (j : Job) → job_of js k ≡ Some j
    → list_any test (aims_of js) ≡ false → test (aim_of j.kind) ≡ false
any_aim test js k j h none = any_job (λ x. test (aim_of x.kind)) js k j h (sym (any-aims test js) ∙ none)

-- no running job works on a file whose number is not pinned
pub not_pinned : (w : State) (k : ℕ) (j : Job) (f : Pinned) (id : ℕ) → is_pinned w id ≡ false →
    job_of w.jobs k ≡ Some j → In f j.pinned → f.id ≡ id → ⊥
not_pinned w k j f id none runs i e =
    false≢true (sym (any_job (λ (x : Job). list_any (λ (p : Pinned). p.id == id) x.pinned) w.jobs k j runs
    none) ∙ any_pinned j.pinned id f i e)

-- the file of an object that a job takes away
pub record Taken (w : State) (job : Job) (name : List ℕ) (o : ℕ) : Type 0 where
  pub file : File
  pub in_effect : file_in w name ≡ Some file
  pub id_is : file.id ≡ o
  pub free : is_pinned w o ≡ false

removable_is : (w : State) (job : Job) (name : List ℕ) (f : Option File) (o : ℕ) → file_in w name ≡ f →
    In o (removable w f) → Taken w job name o
removable_is w job name None o is h = absurd h
removable_is w job name (Some f) o is h = elim (cases_Bool (is_pinned w f.id)) [
  | inl t ↦ absurd (subst (λ l. In o l) (cond_true (is_pinned w f.id) [] (f.id ∷ []) t) h)
  | inr n ↦ here n (subst (λ l. In o l) (cond_false (is_pinned w f.id) [] (f.id ∷ []) n) h)
]
  where
    here : is_pinned w f.id ≡ false → In o (f.id ∷ []) → Taken w job name o
    here n (inl e) = record { file = f; in_effect = is; id_is = sym e; free = ap (is_pinned w) e ∙ n }
    here n (inr i) = absurd i

-- which job takes an object of which name away
abbrev pub Takes : Job → Kind → List ℕ → Type 0
Takes job (PutJob n bytes) name = (4 ≤ job.place) × (n ≡ name)
Takes job (DropJob n) name = n ≡ name
Takes job kind name = ⊥

-- what a job takes away is the file in effect under its name, and no job works on it
pub taken : (w : State) (job : Job) (kind : Kind) (o : ℕ) → In o (taken_out w job kind) →
    (name : List ℕ) × Takes job kind name × Taken w job name o
taken w job (PutJob n bytes) o h = elim (cases_lt job.place 4) [
  | inl l ↦ absurd (subst (λ x. In o x)
      (cond_true (is_first_append job) [] (removable w (file_in w n)) (first_below job l)) h)
  | inr l ↦ (
    n,
    (l, refl),
    removable_is w job n (file_in w n) o refl (subst (λ x. In o x)
        (cond_false (is_first_append job) [] (removable w (file_in w n)) (first_above job l)) h),
  )
]
taken w job (DropJob n) o h = (n, refl, removable_is w job n (file_in w n) o refl h)
taken w job kind o h = absurd h

-- ---- begins of audits and repairs

-- an audit or a repair that may begin finds no other one running
pub check_alone : (limit : ℕ) (w : State) (kind : Kind) (profile : Option ℕ)
    → refusal_of_begin limit w kind profile ≡ None → is_check (aim_of kind) ≡ true
    → (k : ℕ) (j : Job) → job_of w.jobs k ≡ Some j → is_check (aim_of j.kind) ≡ false
check_alone limit w kind profile none check k j runs =
    by kind check (right_false (is_shut (sight_of w))
    (are_jobs_in_the_way limit (aims_of w.jobs) (aim_of kind)) (not_busy limit w kind profile none))
  where
    not_put : (aim : Aim) → is_put_or_check aim ≡ false → is_check aim ≡ false
    not_put (ToPut name size) h = refl
    not_put aim h = h

    by : (kd : Kind) → is_check (aim_of kd) ≡ true
        → are_jobs_in_the_way limit (aims_of w.jobs) (aim_of kd) ≡ false → is_check (aim_of j.kind) ≡ false
    by AuditJob c h = not_put (aim_of j.kind) (any_aim is_put_or_check w.jobs k j runs (right_false _ _ h))
    by RepairJob c h = any_aim is_check w.jobs k j runs (right_false _ _ h)
    by kd c h = absurd (false≢true c)

-- ---- what appends write

-- the record of an append, by the job that it is of
abbrev pub Wrote : Job → Kind → Record → Type 0
Wrote job (PutJob name bytes) entry = ((job.place < 4) × (entry ≡ PutStart job.subject name)) ⊎
    ((4 ≤ job.place) × ((version : ℕ) × (entry ≡ done_record version job.subject (length bytes) job.profile)))
Wrote job (DropJob name) entry = entry ≡ Drop name
Wrote job AuditJob entry = ((number : ℕ) × (entry ≡ AuditStart number)) ⊎
    ((number : ℕ) × (u : ℕ) × (c : List ℕ) × (entry ≡ AuditDone number u c))
Wrote job RepairJob entry = (number : ℕ) × (entry ≡ RepairDone number)
Wrote job UpgradeJob entry = entry ≡ Version
Wrote job (GetJob name) entry = ⊥

-- a put's start is written with the next number, and no append writes what only a packed journal has
pub writes_proper : (w : State) (job : Job) (kind : Kind) (entry : Record) → Writes w job kind entry →
    IsProper w.records entry
writes_proper w job (PutJob name bytes) entry h = elim (cases_Bool (is_first_append job)) [
  | inl t ↦ subst (IsProper w.records)
      (sym (h ∙ cond_true (is_first_append job) (PutStart (next_id w.records) name)
      (done_record (version_of w.records) job.subject (length bytes) job.profile) t)) refl
  | inr f ↦ subst (IsProper w.records)
      (sym (h ∙ cond_false (is_first_append job) (PutStart (next_id w.records) name)
      (done_record (version_of w.records) job.subject (length bytes) job.profile) f))
      (by_version (version_of w.records) job.subject (length bytes) job.profile (IsProper w.records) tt tt)
]
writes_proper w job (GetJob name) entry h = absurd h
writes_proper w job AuditJob entry h = elim (cases_Bool (is_first_append job)) [
  | inl t ↦ subst (IsProper w.records) (sym (let g = rw t at h in g)) tt
  | inr f ↦ (let g = rw f at h in subst (IsProper w.records) (sym g.2) tt)
]
writes_proper w job kind entry h = subst (IsProper w.records) (sym h) tt
