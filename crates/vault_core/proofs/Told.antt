-- Open streams of a core, as its jobs change.
use Rattle.vault_core.proofs.Words.{◌≡◌, ℕ, zero, suc, ◌+◌, ◌<◌, ◌≤◌, List, [], ◌∷◌, ◌++◌, Some, None, set, inl, inr, refl, ap, sym, subst, ◌∙◌, arith, if◌then◌else◌, ◌==◌, slice_get, remove, All, cases_Bool, cases_lt, eq-eqb, ne_eqb, eqb-true, false≢true, All-head, All-tail, All-set, All-push, none-some, Setup, Inside, aim_of_wish, CoreJob, CoreView, AreRising, job_in, wanted_at, wanted_by, told_by, told_in, HasNoStream, core_job, setup_kept, view_of, IsCore, IsToldAs, IsTold}
use Rattle.std.proofs.Common.{◌*◌}
use Rattle.std.specs.Prelude.{Option}
use Rattle.vault_core.specs.declared.job.Job.{Job}
use Rattle.vault_core.proofs.Kept.{All-remove, gone}

-- ---- an open stream goes on

-- a place up to another, and not it, is below it
pub below : (p q v : ℕ) → (if p == q then Some v else None) ≡ None → p ≤ q → p < q
below p q v e l = elim (cases_lt p q) [
  | inl h ↦ h
  | inr g ↦ absurd (none-some v
      (sym e ∙ ap (λ b. if b then Some v else None) (eq-eqb p q (omega (arith, l, g)))))
]

-- a job that is no open stream is told as it should be
pub told_none : (s : Setup) (j : CoreJob) → j.told ≡ None → IsTold s j
told_none s j e = subst (IsToldAs s j) (sym e) tt

-- a job that has made an action, and did not wait for a stripe, is told as before
pub told_on : (s : Setup) (j k : CoreJob) → k.told ≡ j.told → k.plan.aim ≡ j.plan.aim →
    k.plan.profile ≡ j.plan.profile → k.place ≡ j.place + 1 → wanted_at s j.place j.told ≡ None → IsTold s j →
    IsTold s k
told_on s j k told aim profile place free is = rw (← told) at (by j.told free is)
  where
    by : (o : Option ℕ) → wanted_at s j.place o ≡ None → IsToldAs s j o → IsToldAs s k o
    by None f h = tt
    by (Some n) f h = (
      (omega (arith, below j.place (4 + n * s.n) n f h.0, place)),
      (rw (← profile) at h.1),
      (rw (← profile) at h.2),
      (rw (← aim) at h.3),
    )

-- a job that runs is told as it should be
pub told_get : (s : Setup) (js : List CoreJob) (k : ℕ) (j : CoreJob) → All (IsTold s) js →
    job_in js k ≡ Some j → IsTold s j
told_get s [] k j h e = absurd (none-some j e)
told_get s (x ∷ js) k j h e = elim (cases_Bool (x.number == k)) [
  | inl t ↦ (let f : Some x ≡ Some j = sym (ap (λ b. if b then Some x else job_in js k) t) ∙ e in
      let g : x ≡ j = cc in subst (IsTold s) g (All-head (IsTold s) x js h))
  | inr n ↦ told_get s js k j (All-tail (IsTold s) x js h)
      (sym (ap (λ b. if b then Some x else job_in js k) n) ∙ e)
]

-- what each job has, the one at a place has
pub all_at : (P : CoreJob → Type 0) (js : List CoreJob) (i : ℕ) (j : CoreJob) → All P js →
    slice_get js i ≡ Some j → P j
all_at P [] i j h e = absurd (none-some j e)
all_at P (x ∷ js) zero j h e =
    let f : Some x ≡ Some j = e in let g : x ≡ j = cc in subst P g (All-head P x js h)
all_at P (x ∷ js) (suc i) j h e = all_at P js i j (All-tail P x js h) e

-- a job of a core that did not wait for a stripe is told as before behind its next action
pub told_went : {a : Inside} {c : CoreView} (place : ℕ) (old new : Job) → view_of a ≡ c → IsCore a →
    slice_get (view_of a).jobs place ≡ Some (core_job old) →
    wanted_by c.setup (slice_get c.jobs place) ≡ None → new.told ≡ old.told → new.wish ≡ old.wish →
    new.profile ≡ old.profile → new.place ≡ old.place + 1 → IsTold (setup_kept a) (core_job new)
told_went {a} place old new v h here free told wish profile at = told_on (setup_kept a) (core_job old)
    (core_job new) told (ap aim_of_wish wish) profile at (sym (ap (wanted_by (setup_kept a)) here)
    ∙ (ap (λ (x : CoreView). wanted_by x.setup (slice_get x.jobs place)) v ∙ free))
    (all_at (IsTold (setup_kept a)) (view_of a).jobs place (core_job old) h.told here)

-- ---- what a contract sees of open streams

-- what an absent job was given, and one that is found
pub told_some : (js : List CoreJob) (n : ℕ) (j : CoreJob) → job_in js n ≡ Some j → j.told ≡ told_in js n
told_some js n j e = sym (ap told_by e)

-- with a job behind that is no open stream, each number has the stripes that it had
pub told_push : (js : List CoreJob) (x : CoreJob) (n : ℕ) → x.told ≡ None →
    told_in (js ++ x ∷ []) n ≡ told_in js n
told_push [] x n e = elim (cases_Bool (x.number == n)) [
  | inl t ↦ rw t e
  | inr f ↦ rw f refl
]
told_push (j ∷ js) x n e = elim (cases_Bool (j.number == n)) [
  | inl t ↦ rw t refl
  | inr f ↦ rw f (told_push js x n e)
]

-- and with it no stream is open where none was
pub streamless_push : (js : List CoreJob) (x : CoreJob) → x.told ≡ None →
    All (λ (j : CoreJob). j.told ≡ None) js → All (λ (j : CoreJob). j.told ≡ None) (js ++ x ∷ [])
streamless_push js x e h = All-push (λ j. j.told ≡ None) js x h e

told_set : (js : List CoreJob) (i : ℕ) (j x : CoreJob) (n : ℕ) → slice_get js i ≡ Some j →
    x.number ≡ j.number → x.told ≡ j.told → told_in (set js i x) n ≡ told_in js n
told_set [] i j x n e m t = refl
told_set (y ∷ js) zero j x n e m t =
    let f : Some y ≡ Some j = e in let g : y ≡ j = cc in
    let number : x.number ≡ y.number = m ∙ sym (ap (λ z. z.number) g) in
    elim (cases_Bool (y.number == n)) [
      | inl b ↦ (ap (λ d. told_by (if d then Some x else job_in js n)) (ap (λ (k : ℕ). k == n) number ∙ b)
          ∙ ((t ∙ sym (ap (λ (z : CoreJob). z.told) g)) ∙ sym (ap (λ d. told_by
          (if d then Some y else job_in js n)) b)))
      | inr b ↦ ap (λ d. told_by (if d then Some x else job_in js n)) (ap (λ k. k == n) number ∙ b)
          ∙ sym (ap (λ d. told_by (if d then Some y else job_in js n)) b)
    ]
told_set (y ∷ js) (suc i) j x n e m t = elim (cases_Bool (y.number == n)) [
  | inl b ↦ rw b refl
  | inr b ↦ rw b (told_set js i j x n e m t)
]

in_remove : (js : List CoreJob) (i n : ℕ) (j : CoreJob) → slice_get js i ≡ Some j → (n ≡ j.number → ⊥) →
    job_in (remove js i) n ≡ job_in js n
in_remove [] i n j e o = absurd (none-some j e)
in_remove (y ∷ js) zero n j e o =
    let f : Some y ≡ Some j = e in let g : y ≡ j = cc in
    sym (ap (λ d. if d then Some y else job_in js n)
    (ne_eqb y.number n (λ m. o (sym m ∙ ap (λ z. z.number) g))))
in_remove (y ∷ js) (suc i) n j e o = ap (λ r. if y.number == n then Some y else r) (in_remove js i n j e o)

rising_low : (low : ℕ) (js : List CoreJob) (next : ℕ) → AreRising low js next → low ≤ next
rising_low low [] next h = h
rising_low low (j ∷ js) next h = omega (arith, h.0, rising_low (j.number + 1) js next h.1)

-- a job behind others that has the next number is found by it
pub in_push : (low : ℕ) (js : List CoreJob) (next : ℕ) (x : CoreJob) → AreRising low js next →
    x.number ≡ next → job_in (js ++ x ∷ []) next ≡ Some x
in_push low [] next x h n = ap (λ b. if b then Some x else None) (eq-eqb x.number next n)
in_push low (j ∷ js) next x h n = ap (λ b. if b then Some j else job_in (js ++ x ∷ []) next)
    (ne_eqb j.number next (λ e. absurd (omega (arith, rising_low (j.number + 1) js next h.1, e))))
    ∙ in_push (j.number + 1) js next x h.1 n

-- and changes no other number's
pub in_push_other : (js : List CoreJob) (m : ℕ) (x : CoreJob) → (x.number ≡ m → ⊥) →
    job_in (js ++ x ∷ []) m ≡ job_in js m
in_push_other [] m x o = ap (λ b. if b then Some x else None) (ne_eqb x.number m o)
in_push_other (j ∷ js) m x o = ap (λ r. if j.number == m then Some j else r) (in_push_other js m x o)

-- what a contract sees of open streams stays: each has as many stripes as before, if it still runs
pub record LeavesTold (c new : CoreView) : Type 0 where
  pub streams : HasNoStream c → HasNoStream new
  pub told : (number : ℕ) (j : CoreJob) → job_in new.jobs number ≡ Some j → j.told ≡ told_in c.jobs number

-- it does where a job goes on
pub leaves_set : (c new : CoreView) (place : ℕ) (j x : CoreJob) → slice_get c.jobs place ≡ Some j →
    x.number ≡ j.number → x.told ≡ j.told → new.jobs ≡ set c.jobs place x → LeavesTold c new
leaves_set c new place j x here number told js = record {
  streams = λ none. (rw (← js) at (All-set (λ (y : CoreJob). y.told ≡ None) c.jobs place x
      (told ∙ all_at (λ (y : CoreJob). y.told ≡ None) c.jobs place j none here) none));
  told = λ n k e. told_some new.jobs n k e
      ∙ (ap (λ ys. told_in ys n) js ∙ told_set c.jobs place j x n here number told);
}

-- and where one ends
pub leaves_removed : (a : Inside) (c new : CoreView) (place : ℕ) (j : CoreJob) → view_of a ≡ c → IsCore a →
    slice_get c.jobs place ≡ Some j → new.jobs ≡ remove c.jobs place → LeavesTold c new
leaves_removed a c new place j v h here js = record {
  streams = λ none. subst (All (λ y. y.told ≡ None)) (sym js)
      (All-remove (λ y. y.told ≡ None) c.jobs place none);
  told = λ n k e. told_some new.jobs n k e ∙ (ap (λ ys. told_in ys n) js ∙ by n k e);
}
  where
    by : (n : ℕ) (k : CoreJob) → job_in new.jobs n ≡ Some k →
        told_in (remove c.jobs place) n ≡ told_in c.jobs n
    by n k e = elim (cases_Bool (n == j.number)) [
      | inl t ↦ absurd (none-some k (sym (ap (λ ys. job_in ys n) js
          ∙ (ap (job_in (remove c.jobs place)) (eqb-true n j.number t)
          ∙ gone 0 c.jobs a.next_job place j
          (subst (λ x. AreRising 0 x.jobs a.next_job) v h.numbered) here)) ∙ e))
      | inr f ↦ ap told_by (in_remove c.jobs place n j here (λ m. false≢true (sym f ∙ eq-eqb n j.number m)))
    ]
