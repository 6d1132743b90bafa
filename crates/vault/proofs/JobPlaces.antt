-- Running jobs by their numbers, beside the jobs of the machine.
use Rattle.vault.proofs.Words.{◌≡◌, ℕ, zero, suc, ◌+◌, ◌<◌, get_or, true, false, cond, List, [], ◌∷◌, Option, Some, None, refl, sym, ap, subst, ◌∙◌, inl, inr, arith, zero-add, add-zero, slice_get, slice_set, remove, position_from, option_map, cases_Bool, eqb-true, eq-eqb, slice_get-get_or, position-Some, position_from-zero, Setup, Job, job_of, with_job, without_job, cond_true, cond_false, same_value, AreNumbered, without_job-none, Running, IsRunning, AreRunning, place_in}
use Rattle.std.proofs.Common.{◌==◌, length}

-- the place of a number, by recursion
abbrev pub at_number : List Running → ℕ → Option ℕ
at_number [] k = None
at_number (r ∷ rs) k = cond (r.number == k) (Some 0) (option_map suc (at_number rs k))

-- a place counted from one further on is one more
pub one_further : (i : ℕ) (o : Option ℕ) → option_map (λ p. p + (i + 1)) o
    ≡ option_map (λ p. p + i) (option_map suc o)
one_further i None = refl
one_further i (Some q) = (let e : q + (i + 1) ≡ suc q + i = omega arith in ap Some e)

from_is : (rs : List Running) (k i : ℕ) → position_from (λ (r : Running). r.number == k) i rs
    ≡ option_map (λ p. p + i) (at_number rs k)
from_is [] k i = refl
from_is (r ∷ rs) k i =
    elim (r.number == k) as
    (λ b. cond b (Some i) (position_from (λ (r : Running). r.number == k) (i + 1) rs)
    ≡ option_map (λ p. p + i) (cond b (Some 0) (option_map suc (at_number rs k)))) [
      | true ↦ ap Some (sym (zero-add i))
      | false ↦ from_is rs k (i + 1) ∙ one_further i (at_number rs k)
    ]

-- a place counted from zero is itself
pub from_zero : (o : Option ℕ) → option_map (λ p. p + 0) o ≡ o
from_zero None = refl
from_zero (Some q) = ap Some (add-zero q)

-- the place at which a number is found is that of the first job which has it
pub place_is : (rs : List Running) (k : ℕ) → place_in rs k ≡ at_number rs k
place_is rs k = position_from-zero (λ (r : Running). r.number == k) rs ∙ from_is rs k 0
    ∙ from_zero (at_number rs k)

-- a place that was found is one of the list
pub place_within : (rs : List Running) (k place : ℕ) → place_in rs k ≡ Some place → place < length rs
place_within [] k place found = (cc found)
place_within (r ∷ rs) k place found = (position-Some (λ q. q.number == k) (r ∷ rs) place r found).0

-- ---- a running job and what it works with

-- the job of a number, with what it works with at its place
pub record Found (s : Setup) (rs : List Running) (k : ℕ) (j : Job) : Type 0 where
  pub place : ℕ
  pub running : Running
  pub at : at_number rs k ≡ Some place
  pub there : slice_get rs place ≡ Some running
  pub is : IsRunning s running j

further : (s : Setup) (r : Running) (rs : List Running) (k : ℕ) (j : Job) → (r.number == k) ≡ false →
    Found s rs k j → Found s (r ∷ rs) k j
further s r rs k j other f = record {
  place = suc f.place;
  running = f.running;
  at = cond_false (r.number == k) (Some 0) (option_map suc (at_number rs k)) other ∙ ap (option_map suc) f.at;
  there = f.there;
  is = f.is;
}

-- a job of the machine runs in the vault, at the place of its number
pub found : (s : Setup) (rs : List Running) (js : List Job) (k : ℕ) (j : Job) → AreRunning s rs js →
    job_of js k ≡ Some j → Found s rs k j
found s [] [] k j are runs = (cc runs)
found s (r ∷ rs) (x ∷ js) k j are runs = elim (cases_Bool (x.number == k)) [
  | inl t ↦ (
      record {
        place = 0;
        running = r;
        at = cond_true (r.number == k) (Some 0) (option_map suc (at_number rs k))
            (ap (λ (n : ℕ). n == k) are.0.number ∙ t);
        there = refl;
        is = subst (λ y. IsRunning s r y) (same_value _ x j (cond_true _ (Some x) (job_of js k) t) runs) are.0;
      })
  | inr f ↦ (
      further s r rs k j (ap (λ (n : ℕ). n == k) are.0.number ∙ f) (found s rs js k j are.1
      (sym (cond_false _ (Some x) (job_of js k) f) ∙ runs)))
]
found s _ _ k j are runs = absurd are

-- ---- after a step of it

none_at_none : {X : Type 0} (p : ℕ) → None ≡ Some p → X
none_at_none p e = absurd cc

pub before : (o : Option ℕ) (p : ℕ) → option_map suc o ≡ Some p → (q : ℕ) × (o ≡ Some q) × (p ≡ suc q)
before None p e = none_at_none p e
before (Some q) p e = (q, refl, (let same : suc q ≡ p = cc in sym same))

module _ (s : Setup) (k : ℕ) (new : Running) (job : Job) (is : IsRunning s new job)
    (mine : job.number ≡ k) where
  -- a running job put back at its place is that of the machine, and no other changes
  pub put_back : (rs : List Running) (js : List Job) (p : ℕ) → AreRunning s rs js → at_number rs k ≡ Some p →
      AreRunning s (slice_set rs p new) (with_job js job)
  put_back [] [] p are at = none_at_none p at
  put_back (r ∷ rs) (x ∷ js) p are at = elim (cases_Bool (r.number == k)) [
    | inl t ↦ (
        let here : 0 ≡ p = same_value _ 0 p
        (cond_true (r.number == k) (Some 0) (option_map suc (at_number rs k)) t) at in
        let same : (x.number == job.number) ≡ true = eq-eqb x.number job.number
        (sym are.0.number ∙ eqb-true r.number k t ∙ sym mine) in
        subst (λ (q : ℕ). AreRunning s (slice_set (r ∷ rs) q new) (with_job (x ∷ js) job)) here
        (subst (λ (l : List Job). AreRunning s (new ∷ rs) l)
        (sym (cond_true (x.number == job.number) (job ∷ js) (x ∷ with_job js job) same)) (is, are.1)))
    | inr f ↦ (
        let behind = before (at_number rs k) p
        (sym (cond_false (r.number == k) (Some 0) (option_map suc (at_number rs k)) f) ∙ at) in
        let other : (x.number == job.number) ≡ false = (λ i. (sym are.0.number) i == mine i) ∙ f in
        subst (λ (q : ℕ). AreRunning s (slice_set (r ∷ rs) q new) (with_job (x ∷ js) job)) (sym behind.2)
        (subst (λ (l : List Job). AreRunning s (r ∷ slice_set rs behind.0 new) l)
        (sym (cond_false (x.number == job.number) (job ∷ js) (x ∷ with_job js job) other))
        (are.0, put_back rs js behind.0 are.1 behind.1)))
  ]
  put_back _ _ p are at = absurd are

-- ---- after its end

-- a running job taken out at its place is gone as it is from the machine
pub taken_out : (s : Setup) (rs : List Running) (js : List Job) (low next k p : ℕ) → AreNumbered low js next →
    AreRunning s rs js → at_number rs k ≡ Some p → AreRunning s (remove rs p) (without_job js k)
taken_out s [] [] low next k p numbered are at = none_at_none p at
taken_out s (r ∷ rs) (x ∷ js) low next k p numbered are at = elim (cases_Bool (r.number == k)) [
  | inl t ↦ (
      let here : 0 ≡ p = same_value _ 0 p
      (cond_true (r.number == k) (Some 0) (option_map suc (at_number rs k)) t) at in
      let number : x.number ≡ k = sym are.0.number ∙ eqb-true r.number k t in
      subst (λ (q : ℕ). AreRunning s (remove (r ∷ rs) q) (without_job (x ∷ js) k)) here
      (subst (λ (l : List Job). AreRunning s rs l)
      (sym (cond_true (x.number == k) (without_job js k) (x ∷ without_job js k) (eq-eqb x.number k number)
      ∙ without_job-none js (x.number + 1) next k numbered.1 (omega (arith, number)))) are.1))
  | inr f ↦ (
      let behind = before (at_number rs k) p
      (sym (cond_false (r.number == k) (Some 0) (option_map suc (at_number rs k)) f) ∙ at) in
      let other : (x.number == k) ≡ false = ap (λ (n : ℕ). n == k) (sym are.0.number) ∙ f in
      subst (λ (q : ℕ). AreRunning s (remove (r ∷ rs) q) (without_job (x ∷ js) k)) (sym behind.2)
      (subst (λ (l : List Job). AreRunning s (r ∷ remove rs behind.0) l)
      (sym (cond_false (x.number == k) (without_job js k) (x ∷ without_job js k) other))
      (are.0, taken_out s rs js (x.number + 1) next k behind.0 numbered.1 are.1 behind.1)))
]
taken_out s _ _ low next k p numbered are at = absurd are

-- ---- what stands at a place

-- another job of the same number at a place
pub at_set : (rs : List Running) (k p : ℕ) (r r' : Running) → slice_get rs p ≡ Some r → r'.number ≡ r.number →
    at_number (slice_set rs p r') k ≡ at_number rs k
at_set [] k p r r' there same = refl
at_set (x ∷ rs) k zero r r' there same =
    ap (λ n. cond (n == k) (Some 0) (option_map suc (at_number rs k))) (same
    ∙ (let e : Some x ≡ Some r = there in let f : x ≡ r = cc in ap (λ (y : Running). y.number) (sym f)))
at_set (x ∷ rs) k (suc p) r r' there same =
    ap (λ o. cond (x.number == k) (Some 0) (option_map suc o)) (at_set rs k p r r' there same)

-- a place that was found is there
pub item_at : (rs : List Running) (k p : ℕ) (r : Running) → place_in rs k ≡ Some p → r ≡ get_or rs p r →
    slice_get rs p ≡ Some r
item_at rs k p r at is =
    slice_get-get_or rs p r (position-Some (λ (x : Running). x.number == k) rs p r at).0 ∙ ap Some (sym is)
