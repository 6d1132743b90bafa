-- Lists of jobs with one that goes on, without one, and with one more: their sums, lengths and numbers.
use Rattle.state_laws.proofs.Words.{◌≡◌, ◌<◌, ◌==◌, true, false, ◌⊎◌, ◌++◌, length, Option, refl, ap, sym, subst, ◌∙◌, inl, inr, arith, sum_by, sum_by-cons, sum_by_push, eqb-true, eq-eqb, ne_eqb, cases_Bool, cases_eq, Job, job_of, with_job, without_job, Append, cond_true, cond_false, same_value, moves_made, AreNumbered}
use Rattle.std.proofs.Common.{ℕ, ◌+◌, ◌≤◌, List, [], ◌∷◌, Some, None}

-- ---- the first job is of the number, or not

at_first : (x : Job) (js : List Job) (n : ℕ) (j : Job) → job_of (x ∷ js) n ≡ Some j →
    ((x.number ≡ n) × (j ≡ x)) ⊎ (((x.number == n) ≡ false) × (job_of js n ≡ Some j))
at_first x js n j h = elim (cases_Bool (x.number == n)) [
  | inl t ↦ inl (
    eqb-true x.number n t,
    same_value _ j x h (cond_true (x.number == n) (Some x) (job_of js n) t),
  )
  | inr f ↦ inr (f, sym (cond_false (x.number == n) (Some x) (job_of js n) f) ∙ h)
]

with-first : (x : Job) (js : List Job) (job : Job) → x.number ≡ job.number → with_job (x ∷ js) job ≡ job ∷ js
with-first x js job e =
    cond_true (x.number == job.number) (job ∷ js) (x ∷ with_job js job) (eq-eqb x.number job.number e)

with-later : (x : Job) (js : List Job) (job : Job) → (x.number == job.number) ≡ false →
    with_job (x ∷ js) job ≡ x ∷ with_job js job
with-later x js job f = cond_false (x.number == job.number) (job ∷ js) (x ∷ with_job js job) f

without-first : (x : Job) (js : List Job) (n : ℕ) → (x.number == n) ≡ true →
    without_job (x ∷ js) n ≡ without_job js n
without-first x js n t = cond_true (x.number == n) (without_job js n) (x ∷ without_job js n) t

without-later : (x : Job) (js : List Job) (n : ℕ) → (x.number == n) ≡ false →
    without_job (x ∷ js) n ≡ x ∷ without_job js n
without-later x js n f = cond_false (x.number == n) (without_job js n) (x ∷ without_job js n) f

-- ---- jobs that are found still

-- another job is still found when one goes on
pub still-with : (js : List Job) (job : Job) (k : ℕ) (j : Job) → (k ≡ job.number → ⊥) → job_of js k ≡ Some j →
    job_of (with_job js job) k ≡ Some j
still-with [] job k j n h = h
still-with (x ∷ js) job k j n h = elim (cases_Bool (x.number == job.number)) [
  | inl t ↦ elim (at_first x js k j h) [
    | inl p ↦ absurd (n (sym p.0 ∙ eqb-true x.number job.number t))
    | inr q ↦ ap (λ l. job_of l k) (with-first x js job (eqb-true x.number job.number t))
        ∙ (cond_false (job.number == k) (Some job) (job_of js k) (ne_eqb job.number k (λ e. n (sym e))) ∙ q.1)
  ]
  | inr f ↦ ap (λ l. job_of l k) (with-later x js job f) ∙ elim (at_first x js k j h) [
    | inl p ↦ cond_true (x.number == k) (Some x) (job_of (with_job js job) k) (eq-eqb x.number k p.0)
        ∙ ap Some (sym p.1)
    | inr q ↦ cond_false (x.number == k) (Some x) (job_of (with_job js job) k) q.0
        ∙ still-with js job k j n q.1
  ]
]

-- another job is still found when one is taken out
pub still-without : (js : List Job) (n k : ℕ) (j : Job) → (k ≡ n → ⊥) → job_of js k ≡ Some j →
    job_of (without_job js n) k ≡ Some j
still-without [] n k j apart h = h
still-without (x ∷ js) n k j apart h = elim (cases_Bool (x.number == n)) [
  | inl t ↦ ap (λ l. job_of l k) (without-first x js n t) ∙ elim (at_first x js k j h) [
    | inl p ↦ absurd (apart (sym p.0 ∙ eqb-true x.number n t))
    | inr q ↦ still-without js n k j apart q.1
  ]
  | inr f ↦ ap (λ l. job_of l k) (without-later x js n f) ∙ elim (at_first x js k j h) [
    | inl p ↦ cond_true (x.number == k) (Some x) (job_of (without_job js n) k) (eq-eqb x.number k p.0)
        ∙ ap Some (sym p.1)
    | inr q ↦ cond_false (x.number == k) (Some x) (job_of (without_job js n) k) q.0
        ∙ still-without js n k j apart q.1
  ]
]

-- ---- a job that is the only one

-- it stays so where it goes on
pub only-with : (js : List Job) (next before i : Job) → job_of js next.number ≡ Some before → js ≡ i ∷ [] →
    (k : ℕ) (j : Job) → job_of (with_job js next) k ≡ Some j → with_job js next ≡ j ∷ []
only-with js next before i runs one k j h =
    (let now = ap (λ l. with_job l next) one ∙ with-first i [] next (elim
    (at_first i [] next.number before (ap (λ l. job_of l next.number) (sym one) ∙ runs)) [
      | inl p ↦ p.0
      | inr q ↦ absurd (let e : None ≡ Some before = q.1 in cc)
    ]) in
    now ∙ ap (λ x. x ∷ []) (sym (elim (at_first next [] k j (ap (λ l. job_of l k) (sym now) ∙ h)) [
      | inl p ↦ p.1
      | inr q ↦ absurd (let e : None ≡ Some j = q.1 in cc)
    ])))

-- none is left where it is taken out
pub only-without : (js : List Job) (n : ℕ) (before i : Job) → job_of js n ≡ Some before → js ≡ i ∷ [] →
    (k : ℕ) (j : Job) → job_of (without_job js n) k ≡ Some j → ⊥
only-without js n before i runs one k j h =
    (let number : i.number ≡ n = elim (at_first i [] n before (ap (λ l. job_of l n) (sym one) ∙ runs)) [
      | inl p ↦ p.0
      | inr q ↦ absurd (let e : None ≡ Some before = q.1 in cc)
    ] in
    (let e : None ≡ Some j = ap (λ l. job_of l k) (sym (ap (λ l. without_job l n) one
    ∙ without-first i [] n (eq-eqb i.number n number))) ∙ h in cc))

-- two numbers of one job are the same
pub only-number : (js : List Job) (i : Job) → js ≡ i ∷ [] → (k l : ℕ) (x y : Job) → job_of js k ≡ Some x →
    job_of js l ≡ Some y → k ≡ l
only-number js i one k l x y hx hy = sym (at k x hx) ∙ at l y hy
  where
    at : (m : ℕ) (z : Job) → job_of js m ≡ Some z → i.number ≡ m
    at m z h = elim (at_first i [] m z (ap (λ l. job_of l m) (sym one) ∙ h)) [
      | inl p ↦ p.0
      | inr q ↦ absurd (let e : None ≡ Some z = q.1 in cc)
    ]

-- ---- sums

-- a sum over jobs of which one goes on: its new part in place of its old one
pub sum-with : (f : Job → ℕ) (js : List Job) (job before : Job) → job_of js job.number ≡ Some before →
    sum_by f (with_job js job) + f before ≡ sum_by f js + f job
sum-with f [] job before h = absurd (let e : None ≡ Some before = h in cc)
sum-with f (x ∷ js) job before h = elim (at_first x js job.number before h) [
  | inl p ↦ (let a = ap (sum_by f) (with-first x js job p.0) ∙ sum_by-cons f job js in
      omega (arith, a, sum_by-cons f x js, ap f p.1))
  | inr q ↦ (let a = ap (sum_by f) (with-later x js job q.0) ∙ sum_by-cons f x (with_job js job) in
      omega (arith, a, sum_by-cons f x js, sum-with f js job before q.1))
]

sum-without_le : (f : Job → ℕ) (js : List Job) (n : ℕ) → sum_by f (without_job js n) ≤ sum_by f js
sum-without_le f [] n = omega arith
sum-without_le f (x ∷ js) n = elim (cases_Bool (x.number == n)) [
  | inl t ↦ omega (arith, ap (sum_by f) (without-first x js n t), sum_by-cons f x js, sum-without_le f js n)
  | inr o ↦ (let a = ap (sum_by f) (without-later x js n o) ∙ sum_by-cons f x (without_job js n) in
      omega (arith, a, sum_by-cons f x js, sum-without_le f js n))
]

-- a sum over jobs is less by at least the part of one that is taken out
pub sum-without : (f : Job → ℕ) (js : List Job) (n : ℕ) (j : Job) → job_of js n ≡ Some j →
    sum_by f (without_job js n) + f j ≤ sum_by f js
sum-without f [] n j h = absurd (let e : None ≡ Some j = h in cc)
sum-without f (x ∷ js) n j h = elim (at_first x js n j h) [
  | inl p ↦ (let a = ap (sum_by f) (without-first x js n (eq-eqb x.number n p.0)) in
      omega (arith, a, sum_by-cons f x js, sum-without_le f js n, ap f p.1))
  | inr q ↦ (let a = ap (sum_by f) (without-later x js n q.0) ∙ sum_by-cons f x (without_job js n) in
      omega (arith, a, sum_by-cons f x js, sum-without f js n j q.1))
]

-- the part of one job is no more than the sum
pub sum-member : (f : Job → ℕ) (js : List Job) (n : ℕ) (j : Job) → job_of js n ≡ Some j → f j ≤ sum_by f js
sum-member f js n j h = omega (arith, sum-without f js n j h)

-- a sum over jobs and one more job
pub sum-more : (f : Job → ℕ) (js : List Job) (x : Job) → sum_by f (js ++ x ∷ []) ≡ sum_by f js + f x
sum-more f js x = sum_by_push f js x

-- ---- lengths

-- when a job goes on there are as many jobs
pub length-with : (js : List Job) (job : Job) → length (with_job js job) ≡ length js
length-with [] job = refl
length-with (x ∷ js) job = elim (cases_Bool (x.number == job.number)) [
  | inl t ↦ ap length (with-first x js job (eqb-true x.number job.number t))
  | inr f ↦ ap length (with-later x js job f) ∙ omega (arith, length-with js job)
]

-- when a job is taken out there are no more jobs than before
pub length-without : (js : List Job) (n : ℕ) → length (without_job js n) ≤ length js
length-without [] n = omega arith
length-without (x ∷ js) n = elim (cases_Bool (x.number == n)) [
  | inl t ↦ omega (arith, ap length (without-first x js n t), length-without js n)
  | inr o ↦ omega (arith, ap length (without-later x js n o), length-without js n)
]

-- ---- numbers

numbered-lower : (low high : ℕ) (js : List Job) (next : ℕ) → low ≤ high → AreNumbered high js next →
    AreNumbered low js next
numbered-lower low high [] next l h = omega (arith, l, h)
numbered-lower low high (x ∷ js) next l h = ((omega (arith, l, h.0)), h.1)

-- numbers stay in order when a job goes on
pub numbered-with : (low : ℕ) (js : List Job) (next : ℕ) (job : Job) → AreNumbered low js next →
    AreNumbered low (with_job js job) next
numbered-with low [] next job h = h
numbered-with low (x ∷ js) next job h = elim (cases_Bool (x.number == job.number)) [
  | inl t ↦ (let e = eqb-true x.number job.number t in
      subst (λ l. AreNumbered low l next) (sym (with-first x js job e))
      (subst (λ n. (low ≤ n) × AreNumbered (n + 1) js next) e h))
  | inr f ↦ subst (λ l. AreNumbered low l next) (sym (with-later x js job f))
      (h.0, numbered-with (x.number + 1) js next job h.1)
]

-- numbers stay in order when a job is taken out
pub numbered-without : (low : ℕ) (js : List Job) (next n : ℕ) → AreNumbered low js next →
    AreNumbered low (without_job js n) next
numbered-without low [] next n h = h
numbered-without low (x ∷ js) next n h = elim (cases_Bool (x.number == n)) [
  | inl t ↦ subst (λ l. AreNumbered low l next) (sym (without-first x js n t))
      (numbered-lower low (x.number + 1) (without_job js n) next (omega (arith, h.0))
      (numbered-without (x.number + 1) js next n h.1))
  | inr f ↦ subst (λ l. AreNumbered low l next) (sym (without-later x js n f))
      (h.0, numbered-without (x.number + 1) js next n h.1)
]

-- numbers stay in order with one more job, which has the next one
pub numbered-more : (low : ℕ) (js : List Job) (next : ℕ) (x : Job) → x.number ≡ next →
    AreNumbered low js next → AreNumbered low (js ++ x ∷ []) (next + 1)
numbered-more low [] next x e h = ((omega (arith, e, h)), omega (arith, e))
numbered-more low (y ∷ js) next x e h = (h.0, numbered-more (y.number + 1) js next x e h.1)

numbered-low : (low : ℕ) (js : List Job) (next : ℕ) → AreNumbered low js next → low ≤ next
numbered-low low [] next h = h
numbered-low low (x ∷ js) next h = (omega (arith, numbered-low (x.number + 1) js next h.1, h.0))

-- the number of a job that runs is below the next one
pub numbered-below : (low : ℕ) (js : List Job) (next k : ℕ) (j : Job) → AreNumbered low js next →
    job_of js k ≡ Some j → k < next
numbered-below low [] next k j h f = absurd (let e : None ≡ Some j = f in cc)
numbered-below low (x ∷ js) next k j h f = elim (at_first x js k j f) [
  | inl p ↦ omega (arith, numbered-low (x.number + 1) js next h.1, p.0)
  | inr q ↦ numbered-below (x.number + 1) js next k j h.1 q.1
]

-- ---- the append in flight

-- the job of the append in flight has made the moves of that append
pub mine : (a : Append) (number : ℕ) → a.job ≡ number → moves_made (Some a) number ≡ a.moves
mine a number e = cond_true (a.job == number) a.moves 0 (eq-eqb a.job number e)

-- an append of which a move was made is in flight for no job that has made none
pub not-mine : (flight : Option Append) (number : ℕ) (a : Append) → flight ≡ Some a → 1 ≤ a.moves →
    moves_made flight number ≡ 0 → a.job ≡ number → ⊥
not-mine flight number a is begun none e =
    (omega (arith, begun, ap (λ f. moves_made f number) (sym is) ∙ none, (mine a number e)))

-- any job but that of the append in flight has made no move
pub other : (a : Append) (number : ℕ) → (a.job ≡ number → ⊥) → moves_made (Some a) number ≡ 0
other a number n = cond_false (a.job == number) a.moves 0 (ne_eqb a.job number n)

-- where a job's append has made some moves, it is in flight
pub made-some : (flight : Option Append) (number : ℕ) → 0 < moves_made flight number →
    (a : Append) × (flight ≡ Some a) × (a.job ≡ number) × (a.moves ≡ moves_made flight number)
made-some None number l = absurd (omega (arith, l))
made-some (Some a) number l = elim (cases_eq a.job number) [
  | inl e ↦ (a, refl, e, sym (mine a number e))
  | inr n ↦ absurd (omega (arith, l, other a number n))
]

-- jobs of higher numbers stay where one of a lower is taken out
pub without_job-none : (js : List Job) (low next k : ℕ) → AreNumbered low js next → k < low →
    without_job js k ≡ js
without_job-none [] low next k are less = refl
without_job-none (x ∷ js) low next k are less =
    cond_false (x.number == k) (without_job js k) (x ∷ without_job js k)
    (ne_eqb x.number k (λ e. absurd (omega (arith, are.0, less, e)))) ∙ ap (λ (l : List Job). x ∷ l)
    (without_job-none js (x.number + 1) next k are.1 (omega (arith, are.0, less)))
