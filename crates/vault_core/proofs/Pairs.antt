-- Jobs of a core and jobs of the machine, in order.
use Rattle.vault_core.proofs.Words.{◌≡◌, ℕ, zero, suc, ◌+◌, Bool, List, [], ◌∷◌, Some, None, length, set, inl, inr, refl, ap, sym, subst, ◌∙◌, arith, if◌then◌else◌, ◌==◌, remove, AllZip, cases_Bool, eqb-true, eq-eqb, ne_eqb, Setup, job_of, with_job, without_job, AreNumbered, without_job-none, CoreJob, job_in, IsJobOf}
use Rattle.machine_defs.specs.Jobs.{Job}

-- the job of a core that runs under a number, and that of the machine
pub record Pair (s : Setup) (js : List Job) (number : ℕ) (c : CoreJob) : Type 0 where
  pub job : Job
  pub runs : job_of js number ≡ Some job
  pub is : IsJobOf s c job
  pub called : c.number ≡ number

-- a job that runs in a core has a job of its number in the machine that it stands for
pub pair_some : (s : Setup) (cs : List CoreJob) (js : List Job) (k : ℕ) (c : CoreJob) →
    AllZip (IsJobOf s) cs js → job_in cs k ≡ Some c → Pair s js k c
pair_some s [] js k c h e = let f : None ≡ Some c = e in cc
pair_some s (x ∷ cs) [] k c h e = absurd h
pair_some s (x ∷ cs) (j ∷ js) k c h e = elim (cases_Bool (x.number == k)) [
  | inl t ↦ (let f : Some x ≡ Some c = sym (ap (λ b. if b then Some x else job_in cs k) t) ∙ e in
      let g : x ≡ c = cc in
      record {
        job = j;
        runs = ap (λ b. if b then Some j else job_of js k) (eq-eqb j.number k
            (sym h.0.number ∙ eqb-true x.number k t));
        is = rw g at h.0;
        called = rw g at (eqb-true x.number k t);
      })
  | inr f ↦ (let r = pair_some s cs js k c h.1 (sym (ap (λ b. if b then Some x else job_in cs k) f)
      ∙ e) in
      record {
        job = r.job;
        runs = ap (λ b. if b then Some j else job_of js k) (ap (λ n. n == k) (sym h.0.number) ∙ f) ∙ r.runs;
        is = r.is;
        called = r.called;
      })
]

-- a number that no job of a core has is that of no job of the machine
pub pair_none : (s : Setup) (cs : List CoreJob) (js : List Job) (k : ℕ) → AllZip (IsJobOf s) cs js →
    job_in cs k ≡ None → job_of js k ≡ None
pair_none s [] [] k h e = refl
pair_none s (x ∷ cs) (j ∷ js) k h e = elim (cases_Bool (x.number == k)) [
  | inl t ↦ (cc (sym (ap (λ (b : Bool). if b then Some x else job_in cs k) t) ∙ e))
  | inr f ↦ ap (λ b. if b then Some j else job_of js k) (ap (λ n. n == k) (sym h.0.number) ∙ f)
      ∙ pair_none s cs js k h.1 (sym (ap (λ b. if b then Some x else job_in cs k) f) ∙ e)
]
pair_none s _ _ k h e = absurd h

-- a core runs as many jobs as the machine
pub pair_length : (s : Setup) (cs : List CoreJob) (js : List Job) → AllZip (IsJobOf s) cs js →
    length cs ≡ length js
pair_length s [] [] h = refl
pair_length s (x ∷ cs) (j ∷ js) h = ap suc (pair_length s cs js h.1)
pair_length s _ _ h = absurd h

-- the job of a number stands at this place, and no earlier one has the number
abbrev pub IsFirst : List CoreJob → ℕ → ℕ → Type 0
IsFirst [] k place = ⊥
IsFirst (c ∷ cs) k zero = c.number ≡ k
IsFirst (c ∷ cs) k (suc place) = (c.number ≡ k → ⊥) × IsFirst cs k place

-- one more action of a job: the same change in both lists
pub pair_with : {s : Setup} (cs : List CoreJob) (js : List Job) {k : ℕ} (place : ℕ) {c : CoreJob} {j : Job} →
    AllZip (IsJobOf s) cs js → IsFirst cs k place → j.number ≡ k → IsJobOf s c j →
    AllZip (IsJobOf s) (set cs place c) (with_job js j)
pair_with [] js place h f n is = absurd f
pair_with (x ∷ cs) [] place h f n is = absurd h
pair_with {s} (x ∷ cs) (y ∷ js) zero {c} {j} h f n is =
    subst (λ b. AllZip (IsJobOf s) (c ∷ cs) (if b then j ∷ js else y ∷ with_job js j))
    (sym (eq-eqb y.number j.number (sym h.0.number ∙ (f ∙ sym n)))) (is, h.1)
pair_with {s} (x ∷ cs) (y ∷ js) {k} (suc place) {c} {j} h f n is =
    subst (λ b. AllZip (IsJobOf s) (x ∷ set cs place c) (if b then j ∷ js else y ∷ with_job js j)) (sym
    (ne_eqb y.number j.number (λ e. f.0 (h.0.number ∙ (e ∙ n))))) (h.0, pair_with cs js place h.1 f.1 n is)

-- the end of a job: the same change in both lists
pub pair_without : (s : Setup) (cs : List CoreJob) (js : List Job) (k place low next : ℕ) →
    AllZip (IsJobOf s) cs js → IsFirst cs k place → AreNumbered low js next →
    AllZip (IsJobOf s) (remove cs place) (without_job js k)
pair_without s [] js k place low next h f num = absurd f
pair_without s (x ∷ cs) [] k place low next h f num = absurd h
pair_without s (x ∷ cs) (y ∷ js) k zero low next h f num =
    let n : y.number ≡ k = sym h.0.number ∙ f in
    subst (λ b. AllZip (IsJobOf s) cs (if b then without_job js k else y ∷ without_job js k))
    (sym (eq-eqb y.number k n))
    (subst (AllZip (IsJobOf s) cs) (sym (without_job-none js (y.number + 1) next k num.1 (omega (arith, n))))
    h.1)
pair_without s (x ∷ cs) (y ∷ js) k (suc place) low next h f num =
    subst (λ b. AllZip (IsJobOf s) (remove (x ∷ cs) (suc place))
    (if b then without_job js k else y ∷ without_job js k))
    (sym (ne_eqb y.number k (λ e. f.0 (h.0.number ∙ e))))
    (h.0, pair_without s cs js k place (y.number + 1) next h.1 f.1 num.1)

-- ---- the jobs of other numbers

-- a job put at the place of its number is found by it
pub in_set_same : (cs : List CoreJob) (k place : ℕ) (c : CoreJob) → IsFirst cs k place → c.number ≡ k →
    job_in (set cs place c) k ≡ Some c
in_set_same [] k place c f n = absurd f
in_set_same (x ∷ cs) k zero c f n = ap (λ b. if b then Some c else job_in cs k) (eq-eqb c.number k n)
in_set_same (x ∷ cs) k (suc place) c f n = ap (λ b. if b then Some x else job_in (set cs place c) k)
    (ne_eqb x.number k f.0) ∙ in_set_same cs k place c f.1 n

-- a job put at the place of its number changes no other number's
pub in_set_other : (cs : List CoreJob) (k place m : ℕ) (c : CoreJob) → IsFirst cs k place → c.number ≡ k →
    (m ≡ k → ⊥) → job_in (set cs place c) m ≡ job_in cs m
in_set_other [] k place m c f n o = absurd f
in_set_other (x ∷ cs) k zero m c f n o =
    ap (λ b. if b then Some c else job_in cs m) (ne_eqb c.number m (λ e. o (sym e ∙ n)))
    ∙ sym (ap (λ b. if b then Some x else job_in cs m) (ne_eqb x.number m (λ e. o (sym e ∙ f))))
in_set_other (x ∷ cs) k (suc place) m c f n o =
    ap (λ r. if x.number == m then Some x else r) (in_set_other cs k place m c f.1 n o)

-- a job taken out changes no other number's
pub in_remove_other : (cs : List CoreJob) (k place m : ℕ) → IsFirst cs k place → (m ≡ k → ⊥) →
    job_in (remove cs place) m ≡ job_in cs m
in_remove_other [] k place m f o = absurd f
in_remove_other (x ∷ cs) k zero m f o =
    sym (ap (λ b. if b then Some x else job_in cs m) (ne_eqb x.number m (λ e. o (sym e ∙ f))))
in_remove_other (x ∷ cs) k (suc place) m f o =
    ap (λ r. if x.number == m then Some x else r) (in_remove_other cs k place m f.1 o)
