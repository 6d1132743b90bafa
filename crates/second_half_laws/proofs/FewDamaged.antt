-- Runs whose events name few providers for damage are calm.
use Rattle.second_half_laws.proofs.Words.{◌⊎◌, true, cond, refl, ap, sym, subst, ◌∙◌, inl, inr, arith, ◌||◌, range_with_len, cases_Bool, or_left, or_right, eqb-true, eq-eqb, ne_eqb, In, upto, count_of, count_of-within, Setup, setup_of, no_setup, setup_or_none, State, IsStart, setup_in, Moment, now, first_moments, IsRun, is_replaced_since, Mark, relies, replaced_count, IsCalm, AreScrubsCalm, AllTell, DamagesOnly, among_all, setup_same, IsMarkedRun}
use Rattle.std.proofs.Common.{◌≡◌, ℕ, zero, suc, ◌+◌, ◌≤◌, ◌<◌, ◌==◌, Bool, false, List, [], ◌∷◌, length, Option, Some, None}
use Rattle.second_half_laws.proofs.Doubts.{setups_stay}
use Rattle.second_half_laws.proofs.InRuns.{start_marked}

-- ---- how many of a range are in a list

none_of : (p a n : ℕ) → p < a → count_of (λ j. p == j) (range_with_len a n) ≤ 0
none_of p a zero l = omega arith
none_of p a (suc n) l = rw (ne_eqb p a (λ e. omega arith)) (omega (arith, none_of p (a + 1) n (omega arith)))

one_of : (p a n : ℕ) → count_of (λ j. p == j) (range_with_len a n) ≤ 1
one_of p a zero = omega arith
one_of p a (suc n) = elim (cases_Bool (p == a)) [
  | inl t ↦ (rw t (omega (arith, none_of p (a + 1) n (let e = eqb-true p a t in omega arith))))
  | inr f ↦ (rw f (omega (arith, one_of p (a + 1) n)))
]

count_of-or : (p q : ℕ → Bool) (js : List ℕ) → count_of (λ j. p j || q j) js ≤ count_of p js + count_of q js
count_of-or p q [] = omega arith
count_of-or p q (j ∷ js) = go (p j) (q j) (count_of-or p q js)
  where
    go : (b c : Bool) → count_of (λ j. p j || q j) js ≤ count_of p js + count_of q js →
        cond (b || c) 1 0 + count_of (λ j. p j || q j) js
        ≤ cond b 1 0 + count_of p js + (cond c 1 0 + count_of q js)
    go true c h = elim c as (λ d. cond (true || d) 1 0 + count_of (λ j. p j || q j) js ≤ cond true 1 0 +
        count_of p js + (cond d 1 0 + count_of q js)) [ false ↦ omega (arith, h) | true ↦ omega (arith, h) ]
    go false _ h = omega (arith, h)

-- a number is in a list, as a test
is_in : List ℕ → ℕ → Bool
is_in [] j = false
is_in (p ∷ ps) j = (p == j) || is_in ps j

in_is : (ps : List ℕ) (j : ℕ) → In j ps → is_in ps j ≡ true
unfolding is_in
in_is [] j h = absurd h
in_is (p ∷ ps) j (inl e) = or_left (p == j) (is_in ps j) (eq-eqb p j (sym e))
in_is (p ∷ ps) j (inr h) = or_right (p == j) (is_in ps j) (in_is ps j h)

few_in : (ps : List ℕ) (a n : ℕ) → count_of (is_in ps) (range_with_len a n) ≤ length ps
unfolding is_in
few_in [] a zero = omega arith
few_in [] a (suc n) = (omega (arith, few_in [] (a + 1) n))
few_in (p ∷ ps) a n =
    (omega (arith, count_of-or (λ j. p == j) (is_in ps) (range_with_len a n), one_of p a n, few_in ps a n))

-- ---- calm

-- these providers are at most as many as the code corrects, where a setup is in effect
abbrev pub AreFew : List ℕ → State → Type 0
AreFew ps w = (setup_of w.records ≡ None) ⊎ (length ps ≤ (setup_in w).b)

no_setup_in : (w : State) → setup_of w.records ≡ None → setup_in w ≡ no_setup
unfolding setup_in
no_setup_in w h = ap setup_or_none h

pub few_now : (w : State) (ps : List ℕ) (from : ℕ) (ms : List Moment) → AreFew ps w →
    ((j : ℕ) → is_replaced_since from j ms ≡ true → In j ps) → replaced_count w from ms ≤ (setup_in w).b
few_now w ps from ms (inl none) among =
    subst (λ t. count_of (λ j. is_replaced_since from j ms) (upto t.n) ≤ t.b)
    (sym (no_setup_in w none)) (omega arith)
few_now w ps from ms (inr few) among = (let c = count_of-within (λ j. is_replaced_since from j ms) (is_in ps)
    0 (setup_in w).n (λ j l h. in_is ps j (among j h)) in
    let d = few_in ps 0 (setup_in w).n in omega (arith, c, d, few))

-- so it was before
pub few_before : (limit : ℕ) (start : State) (m : Moment) (ms : List Moment) (ps : List ℕ) → IsStart start →
    IsRun limit start (m ∷ ms) → AreFew ps m.state → AreFew ps (now start ms)
few_before limit start m ms ps clean run few = go (setup_of (now start ms).records) refl
  where
    go : (s : Option Setup) → setup_of (now start ms).records ≡ s → AreFew ps (now start ms)
    go None is = inl is
    go (Some s) is = (let stays = setups_stay limit start (m ∷ []) ms s clean run is in elim few [
      | inl none ↦ absurd (cc (sym none ∙ stays))
      | inr l ↦ inr (rw (setup_same m.state (now start ms) (stays ∙ sym is)) at l)
    ])

pub few_calm : (limit : ℕ) (mark : Mark) (start : State) (ps : List ℕ) → IsStart start → (ms : List Moment) →
    IsRun limit start ms → DamagesOnly ps ms → AreFew ps (now start ms) → IsCalm relies mark ms
few_calm limit mark start ps clean [] run only few = tt
few_calm limit mark start ps clean (m ∷ ms) run only few = (
  λ number job runs reads. few_now m.state ps (mark (first_moments job.begun (m ∷ ms))) (m ∷ ms) few
      (λ j h. among_all ps (m ∷ ms) (mark (first_moments job.begun (m ∷ ms))) j only h),
  few_calm limit mark start ps clean ms run.2 only.1 (few_before limit start m ms ps clean run few),
)

pub few_scrubs : (limit : ℕ) (mark : Mark) (start : State) (ps : List ℕ) → IsStart start →
    (ms : List Moment) → IsRun limit start ms → DamagesOnly ps ms → AreFew ps (now start ms) →
    AreScrubsCalm mark ms
few_scrubs limit mark start ps clean [] run only few = tt
few_scrubs limit mark start ps clean (m ∷ ms) run only few = (
  λ scrub runs. few_now m.state ps (mark (first_moments scrub.begun (m ∷ ms))) (m ∷ ms) few
      (λ j h. among_all ps (m ∷ ms) (mark (first_moments scrub.begun (m ∷ ms))) j only h),
  few_scrubs limit mark start ps clean ms run.2 only.1 (few_before limit start m ms ps clean run few),
)

-- and so its start is a mark
pub few_marked : (limit : ℕ) (start : State) (ms : List Moment) (ps : List ℕ) → IsStart start →
    AllTell start → IsRun limit start ms → DamagesOnly ps ms → length ps ≤ (setup_in (now start ms)).b →
    IsMarkedRun limit (λ moments. 0) start ms
few_marked limit start ms ps clean tell run only few = start_marked limit start ms clean tell run
    (few_calm limit (λ moments. 0) start ps clean ms run only (inr few))
    (few_scrubs limit (λ moments. 0) start ps clean ms run only (inr few))
