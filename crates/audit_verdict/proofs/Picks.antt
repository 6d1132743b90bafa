-- Sums over picks of which one differs.
use Rattle.audit_verdict.proofs.Words.{◌≢◌, zero, suc, ◌==◌, ◌&&◌, Bool, true, false, nat_eq, [], ◌∷◌, is_some, unwrap_or, Option, Some, arith, ap, sym, refl, ◌∙◌, eqb-true, nim, nim_add, nim_mul, nim_pow, nim_laws, nim_ring, stream_symbol, Challenge, alpha, picked_row, sum_over, combined, held_symbol, all_held, honest_answer}
use Rattle.std.specs.Prelude.{◌≡◌, ℕ, ◌<◌, List, None, if◌then◌else◌}
use Rattle.algebra_laws.proofs.Inverse.{factor_zero}
use Rattle.algebra_laws.proofs.Ring.{sum_zero}
use Rattle.algebra_laws.proofs.Solve.{v, ◌⊞◌, ◌⊡◌, solve}

-- the weight of a challenge is not zero
alpha-not_zero : (key : List ℕ) → alpha key ≢ 0
unfolding alpha
alpha-not_zero key = go (stream_symbol key 0)
  where
    go : (x : ℕ) → (if x == 0 then 1 else x) ≢ 0
    go x e = grind (arith, e)

-- nor is a power of it
pow-not_zero : (a n : ℕ) → a ≢ 0 → nim_pow a n ≢ 0
unfolding nim_pow
pow-not_zero a zero some e = absurd (omega (arith, e))
pow-not_zero a (suc n) some e = pow-not_zero a n some (factor_zero nim nim_laws a (nim_pow a n) e some)

-- sums of the same symbols are the same
sum_over-picks : (c : Challenge) (f g : ℕ → ℕ) (n : ℕ) →
    ((k : ℕ) → k < n → f (picked_row c.seed c.rows k) ≡ g (picked_row c.seed c.rows k)) →
    sum_over c f n ≡ sum_over c g n
unfolding sum_over
sum_over-picks c f g zero same = refl
sum_over-picks c f g (suc n) same =
    (λ i. nim_add (sum_over-picks c f g n (λ k below. same k (omega (arith, below))) i)
    (nim_mul (nim_pow (alpha c.seed) (suc n)) (same n (omega arith) i)))

-- sums of which one pick differs
sum_over-once : (c : Challenge) (f g : ℕ → ℕ) (pick n : ℕ) → pick < n →
    ((k : ℕ) → k < n → k ≢ pick → f (picked_row c.seed c.rows k) ≡ g (picked_row c.seed c.rows k)) →
    sum_over c f n ≡ nim_add (sum_over c g n)
    (nim_mul (nim_pow (alpha c.seed) (suc pick))
    (nim_add (f (picked_row c.seed c.rows pick)) (g (picked_row c.seed c.rows pick))))
unfolding sum_over
sum_over-once c f g pick zero below others = absurd (omega (arith, below))
sum_over-once c f g pick (suc n) below others = go (nat_eq n pick) refl
    (λ less. sum_over-once c f g pick n less (λ k under. others k (omega (arith, under))))
  where
    at : ℕ → ℕ
    at k = picked_row c.seed c.rows k

    weight : ℕ → ℕ
    weight k = nim_pow (alpha c.seed) (suc k)

    rise : ℕ
    rise = nim_mul (weight pick) (nim_add (f (at pick)) (g (at pick)))

    go : (b : Bool) → nat_eq n pick ≡ b → (pick < n → sum_over c f n ≡ nim_add (sum_over c g n) rise) →
        sum_over c f (suc n) ≡ nim_add (sum_over c g (suc n))
        (nim_mul (weight pick) (nim_add (f (at pick)) (g (at pick))))
    go true same before =
        let e : n ≡ pick = eqb-true n pick same in
        (λ i. nim_add (sum_over-picks c f g n
        (λ k less. others k (omega (arith, less)) (λ h. absurd (omega (arith, h, less, e)))) i)
        (nim_mul (weight n) (f (at n))))
        ∙ solve nim_ring (sum_over c g n ∷ weight n ∷ f (at n) ∷ g (at n) ∷ [])
        (v 0 ⊞ (v 1 ⊡ v 2)) ((v 0 ⊞ (v 1 ⊡ v 3)) ⊞ (v 1 ⊡ (v 2 ⊞ v 3))) refl
        ∙ ap (λ k. nim_add (sum_over c g (suc n)) (nim_mul (weight k) (nim_add (f (at k)) (g (at k))))) e
    go false differ before =
        let other : n ≢ pick = λ h. grind (arith, differ, h) in
        let less : pick < n = (let m : n ≢ pick = other in omega arith) in
        (λ i. nim_add (before less i) (nim_mul (weight n) (others n (omega arith) other i)))
        ∙ solve nim_ring (sum_over c g n ∷ rise ∷ nim_mul (weight n) (g (at n)) ∷ [])
        ((v 0 ⊞ v 1) ⊞ v 2) ((v 0 ⊞ v 2) ⊞ v 1) refl

-- so the sums differ
sum_over-differ : (c : Challenge) (f g : ℕ → ℕ) (pick n : ℕ) → pick < n →
    ((k : ℕ) → k < n → k ≢ pick → f (picked_row c.seed c.rows k) ≡ g (picked_row c.seed c.rows k)) →
    sum_over c f n ≡ sum_over c g n → f (picked_row c.seed c.rows pick) ≡ g (picked_row c.seed c.rows pick)
sum_over-differ c f g pick n below others same =
    let w = nim_pow (alpha c.seed) (suc pick) in
    let d = nim_add (f (picked_row c.seed c.rows pick)) (g (picked_row c.seed c.rows pick)) in
    let none : nim_mul w d ≡ 0 =
    sym (solve nim_ring (sum_over c g n ∷ nim_mul w d ∷ []) (v 0 ⊞ (v 0 ⊞ v 1)) (v 1) refl)
    ∙ ap (nim_add (sum_over c g n)) (sym (sum_over-once c f g pick n below others) ∙ same)
    ∙ nim_ring.add_self (sum_over c g n) in
    sum_zero nim_ring (f (picked_row c.seed c.rows pick)) (g (picked_row c.seed c.rows pick))
    (factor_zero nim nim_laws w d none (pow-not_zero (alpha c.seed) (suc pick) (alpha-not_zero c.seed)))

-- what is held in all picked rows is held in each
all_held-at : (c : Challenge) (held : ℕ → Option (List ℕ)) (n k : ℕ) → all_held c held n ≡ true → k < n →
    is_some (held_symbol c.size held (picked_row c.seed c.rows k)) ≡ true
unfolding all_held
all_held-at c held zero k all below = absurd (omega (arith, below))
all_held-at c held (suc n) k all below = go (all_held c held n)
    (is_some (held_symbol c.size held (picked_row c.seed c.rows n))) refl refl all (nat_eq k n) refl
    (λ before less. all_held-at c held n k before less)
  where
    go : (a b : Bool) → all_held c held n ≡ a → is_some (held_symbol c.size held (picked_row c.seed c.rows n))
        ≡ b → a && b ≡ true →
        (t : Bool) → nat_eq k n ≡ t →
        (all_held c held n ≡ true → k < n → is_some (held_symbol c.size held (picked_row c.seed c.rows k))
        ≡ true) →
        is_some (held_symbol c.size held (picked_row c.seed c.rows k)) ≡ true
    go true true before here both true same earlier =
        ap (λ m. is_some (held_symbol c.size held (picked_row c.seed c.rows m))) (eqb-true k n same) ∙ here
    go true true before here both false differ earlier =
        earlier before (let other : k ≢ n = (λ h. grind (arith, differ, h)) in omega arith)
    go true false before here both t is earlier = cc
    go false true before here both t is earlier = cc
    go false false before here both t is earlier = cc

-- two numbers that are there are one if their values are
same_some : (a b : Option ℕ) → is_some a ≡ true → is_some b ≡ true → unwrap_or a 0 ≡ unwrap_or b 0 → a ≡ b
same_some None b some_a some_b e = cc
same_some (Some x) None some_a some_b e = cc
same_some (Some x) (Some y) some_a some_b e = ap Some e

-- honest answers over blocks of which exactly one pick differs are not one, where one of them is there
pub honest-differ : (c : Challenge) (held own : ℕ → Option (List ℕ)) (pick : ℕ) → pick < c.picks →
    ((k : ℕ) → k < c.picks → k ≢ pick → held_symbol c.size held (picked_row c.seed c.rows k)
    ≡ held_symbol c.size own (picked_row c.seed c.rows k)) →
    held_symbol c.size held (picked_row c.seed c.rows pick) ≢ held_symbol c.size own
    (picked_row c.seed c.rows pick) →
    honest_answer c own ≢ None → honest_answer c held ≢ honest_answer c own
honest-differ c held own pick below others differ there same =
    go (all_held c held c.picks) (all_held c own c.picks) refl refl
  where
    f : (ℕ → Option (List ℕ)) → ℕ → ℕ
    f blocks row = unwrap_or (held_symbol c.size blocks row) 0

    answer : Bool → (ℕ → Option (List ℕ)) → Option ℕ
    answer b blocks = if b then Some (combined c (f blocks)) else None

    go : (a b : Bool) → all_held c held c.picks ≡ a → all_held c own c.picks ≡ b → ⊥
    go a false is_a is_b = there (ap (λ b. answer b own) is_b)
    go false true is_a is_b =
        let e : answer false held ≡ answer true own = sym (ap (λ b. answer b held) is_a) ∙ same
        ∙ ap (λ b. answer b own) is_b in cc
    go true true is_a is_b =
        let e : answer true held ≡ answer true own = sym (ap (λ b. answer b held) is_a) ∙ same
        ∙ ap (λ b. answer b own) is_b in
        let sums : combined c (f held) ≡ combined c (f own) = cc in
        differ (same_some (held_symbol c.size held (picked_row c.seed c.rows pick))
        (held_symbol c.size own (picked_row c.seed c.rows pick))
        (all_held-at c held c.picks pick is_a below) (all_held-at c own c.picks pick is_b below)
        (sum_over-differ c (f held) (f own) pick c.picks below
        (λ k less other. ap (λ s. unwrap_or s 0) (others k less other)) sums))
