-- Lemmas on lists of jobs by number.
use Rattle.machine_defs.proofs.Words.{◌≡◌, Bool, false, cond, ◌⊎◌, refl, ap, sym, subst, ◌∙◌, inl, inr, eqb-true, eq-eqb, ne_eqb, cases_Bool, cases_eq, false≢true, Job, job_of, with_job, without_job}
use Rattle.std.proofs.Common.{ℕ, ◌==◌, true, List, [], ◌∷◌, ◌++◌, Option, Some, None}

-- the first of a choice, and the second
pub cond_true : {X : Type 0} (b : Bool) (x y : X) → b ≡ true → cond b x y ≡ x
cond_true true x y h = refl
cond_true false x y h = absurd (false≢true h)

-- a choice whose test fails is its second
pub cond_false : {X : Type 0} (b : Bool) (x y : X) → b ≡ false → cond b x y ≡ y
cond_false true x y h = absurd (false≢true (sym h))
cond_false false x y h = refl

-- an option has one value
pub same_value : {X : Type 0} (o : Option X) (x y : X) → o ≡ Some x → o ≡ Some y → x ≡ y
same_value o x y a b = let e : Some x ≡ Some y = sym a ∙ b in cc

-- a job that is found has the number
pub number_of : (js : List Job) (k : ℕ) (j : Job) → job_of js k ≡ Some j → j.number ≡ k
number_of [] k j h = let e : None ≡ Some j = h in cc
number_of (x ∷ js) k j h = elim (cases_Bool (x.number == k)) [
  | inl t ↦ (let same : x ≡ j = same_value _ x j (cond_true _ (Some x) (job_of js k) t) h in
      subst (λ (y : Job). y.number ≡ k) same (eqb-true x.number k t))
  | inr f ↦ number_of js k j (sym (cond_false _ (Some x) (job_of js k) f) ∙ h)
]

-- with a job in place of another: that job, or one of another number
pub found_with : (js : List Job) (job : Job) (k : ℕ) (j : Job) → job_of (with_job js job) k ≡ Some j →
    ((k ≡ job.number) × (j ≡ job)) ⊎ ((k ≡ job.number → ⊥) × (job_of js k ≡ Some j))
found_with [] job k j h = let e = h in cc
found_with (x ∷ js) job k j h = elim (cases_Bool (x.number == job.number)) [
  | inl t ↦ replaced t (ap (λ l. job_of l k) (sym (cond_true _ (job ∷ js) (x ∷ with_job js job) t)) ∙ h)
  | inr f ↦ kept f (found_with js job k j)
      (ap (λ l. job_of l k) (sym (cond_false _ (job ∷ js) (x ∷ with_job js job) f)) ∙ h)
]
  where
    replaced : (x.number == job.number) ≡ true → job_of (job ∷ js) k ≡ Some j →
        ((k ≡ job.number) × (j ≡ job)) ⊎ ((k ≡ job.number → ⊥) × (job_of (x ∷ js) k ≡ Some j))
    replaced t g = elim (cases_eq k job.number) [
      | inl e ↦ inl (
        e,
        same_value _ j job g
            (cond_true (job.number == k) (Some job) (job_of js k) (eq-eqb job.number k (sym e))),
      )
      | inr n ↦ inr (
        n,
        cond_false (x.number == k) (Some x) (job_of js k)
            (ne_eqb x.number k (λ e. n (sym e ∙ eqb-true x.number job.number t)))
            ∙ (sym (cond_false (job.number == k) (Some job) (job_of js k)
            (ne_eqb job.number k (λ e. n (sym e)))) ∙ g),
      )
    ]

    kept : (x.number == job.number) ≡ false →
        (job_of (with_job js job) k ≡ Some j → ((k ≡ job.number) × (j ≡ job)) ⊎
        ((k ≡ job.number → ⊥) × (job_of js k ≡ Some j))) →
        job_of (x ∷ with_job js job) k ≡ Some j → ((k ≡ job.number) × (j ≡ job)) ⊎
        ((k ≡ job.number → ⊥) × (job_of (x ∷ js) k ≡ Some j))
    kept f rest g = elim (cases_Bool (x.number == k)) [
      | inl t ↦ inr (
        λ e. false≢true (sym f ∙ eq-eqb x.number job.number (eqb-true x.number k t ∙ e)),
        cond_true (x.number == k) (Some x) (job_of js k) t
            ∙ (sym (cond_true (x.number == k) (Some x) (job_of (with_job js job) k) t) ∙ g),
      )
      | inr n ↦ elim (rest (sym (cond_false (x.number == k) (Some x) (job_of (with_job js job) k) n) ∙ g)) [
        | inl p ↦ inl p
        | inr q ↦ inr (q.0, cond_false (x.number == k) (Some x) (job_of js k) n ∙ q.1)
      ]
    ]

-- that job is found, where one of its number was
pub found_itself : (js : List Job) (job before : Job) → job_of js job.number ≡ Some before →
    job_of (with_job js job) job.number ≡ Some job
found_itself [] job before h = let e : None ≡ Some before = h in cc
found_itself (x ∷ js) job before h = elim (cases_Bool (x.number == job.number)) [
  | inl t ↦ ap (λ (l : List Job). job_of l job.number) (cond_true _ (job ∷ js) (x ∷ with_job js job) t)
      ∙ cond_true (job.number == job.number) (Some job) (job_of js job.number)
      (eq-eqb job.number job.number refl)
  | inr f ↦ ap (λ (l : List Job). job_of l job.number) (cond_false _ (job ∷ js) (x ∷ with_job js job) f)
      ∙ (cond_false (x.number == job.number) (Some x) (job_of (with_job js job) job.number) f
      ∙ found_itself js job before
      (sym (cond_false (x.number == job.number) (Some x) (job_of js job.number) f) ∙ h))
]

-- without a job: one of another number
pub found_without : (js : List Job) (n k : ℕ) (j : Job) → job_of (without_job js n) k ≡ Some j →
    (k ≡ n → ⊥) × (job_of js k ≡ Some j)
found_without [] n k j h = let e : None ≡ Some j = h in cc
found_without (x ∷ js) n k j h = elim (cases_Bool (x.number == n)) [
  | inl t ↦ (let r = found_without js n k j
      (ap (λ (l : List Job). job_of l k) (sym (cond_true _ (without_job js n) (x ∷ without_job js n) t))
      ∙ h) in (
        r.0,
        cond_false (x.number == k) (Some x) (job_of js k)
            (ne_eqb x.number k (λ e. r.0 (sym e ∙ eqb-true x.number n t))) ∙ r.1,
      ))
  | inr f ↦ kept f (found_without js n k j)
      (ap (λ (l : List Job). job_of l k) (sym (cond_false _ (without_job js n) (x ∷ without_job js n) f)) ∙ h)
]
  where
    kept : (x.number == n) ≡ false →
        (job_of (without_job js n) k ≡ Some j → (k ≡ n → ⊥) × (job_of js k ≡ Some j)) →
        job_of (x ∷ without_job js n) k ≡ Some j → (k ≡ n → ⊥) × (job_of (x ∷ js) k ≡ Some j)
    kept f rest g = elim (cases_Bool (x.number == k)) [
      | inl t ↦ (
        λ e. false≢true (sym f ∙ eq-eqb x.number n (eqb-true x.number k t ∙ e)),
        cond_true (x.number == k) (Some x) (job_of js k) t
            ∙ (sym (cond_true (x.number == k) (Some x) (job_of (without_job js n) k) t) ∙ g),
      )
      | inr m ↦ (let r = rest (sym (cond_false (x.number == k) (Some x) (job_of (without_job js n) k) m)
          ∙ g) in
          (r.0, cond_false (x.number == k) (Some x) (job_of js k) m ∙ r.1))
    ]

-- with one more at the end: that job, or one that was there
pub found_more : (js : List Job) (x : Job) (k : ℕ) (j : Job) → job_of (js ++ x ∷ []) k ≡ Some j →
    ((k ≡ x.number) × (j ≡ x)) ⊎ (job_of js k ≡ Some j)
found_more [] x k j h = elim (cases_Bool (x.number == k)) [
  | inl t ↦ inl (sym (eqb-true x.number k t), same_value _ j x h (cond_true (x.number == k) (Some x) None t))
  | inr f ↦ (let e : None ≡ Some j = sym (cond_false (x.number == k) (Some x) None f) ∙ h in cc)
]
found_more (y ∷ js) x k j h = elim (cases_Bool (y.number == k)) [
  | inl t ↦ inr (cond_true (y.number == k) (Some y) (job_of js k) t
      ∙ (sym (cond_true (y.number == k) (Some y) (job_of (js ++ x ∷ []) k) t) ∙ h))
  | inr f ↦ elim (found_more js x k j (sym (cond_false (y.number == k) (Some y) (job_of (js ++ x ∷ []) k) f)
      ∙ h)) [
        | inl p ↦ inl p
        | inr q ↦ inr (cond_false (y.number == k) (Some y) (job_of js k) f ∙ q)
      ]
]

-- among no jobs none is found
pub found_none : (js : List Job) (k : ℕ) (j : Job) → js ≡ [] → job_of js k ≡ Some j → ⊥
found_none js k j e h = let f : None ≡ Some j = ap (λ (l : List Job). job_of l k) (sym e) ∙ h in cc

-- a job that was found is found among one more
pub still_found : (js : List Job) (y : Job) (k : ℕ) (j : Job) → job_of js k ≡ Some j →
    job_of (js ++ y ∷ []) k ≡ Some j
still_found [] y k j h = let e : None ≡ Some j = h in cc
still_found (x ∷ js) y k j h = elim (cases_Bool (x.number == k)) [
  | inl t ↦ cond_true (x.number == k) (Some x) (job_of (js ++ y ∷ []) k) t
      ∙ (sym (cond_true (x.number == k) (Some x) (job_of js k) t) ∙ h)
  | inr f ↦ cond_false (x.number == k) (Some x) (job_of (js ++ y ∷ []) k) f
      ∙ still_found js y k j (sym (cond_false (x.number == k) (Some x) (job_of js k) f) ∙ h)
]
