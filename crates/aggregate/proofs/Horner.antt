-- The sum of a challenge by Horner's rule, from the last pick to the first.
use Rattle.std.specs.Prelude.{◌≡◌, ◌≢◌, ℕ, zero, suc, ◌+◌, ◌<◌, ◌≤◌, ◌&&◌, Bool, true, false, nat_eq, List, [], ◌∷◌, Option, Some, None, is_some, unwrap_or, if◌then◌else◌}
use Rattle.std.proofs.Common.{arith, ap, sym, refl, ◌∙◌, subst, eqb-true}
use Rattle.algebra_laws.proofs.Solve.{v, o, i, ◌⊞◌, ◌⊡◌, solve}
use Rattle.hail_field.specs.Nim.{nim_add, nim_mul, nim_pow}
use Rattle.hail_field.proofs.AllNumbers.{nim_ring}
use Rattle.column_defs.specs.Challenges.{Challenge, alpha, picked_row, sum_over, combined, held_symbol, all_held, honest_answer}

-- all picks come to the sum of the first ones and that of the others, which Horner's rule has made
abbrev pub Splits : Challenge → (ℕ → ℕ) → ℕ → ℕ → Type 0
Splits c at k sum = nim_add (sum_over c at k) (nim_mul (nim_pow (alpha c.seed) k) sum) ≡ combined c at

-- all picks are first ones
pub splits_end : (c : Challenge) (at : ℕ → ℕ) → Splits c at c.picks 0
splits_end c at =
    solve nim_ring (sum_over c at c.picks ∷ nim_pow (alpha c.seed) c.picks ∷ []) (v 0 ⊞ (v 1 ⊡ o)) (v 0) refl

-- one pick more by Horner's rule
pub splits_more : (c : Challenge) (at : ℕ → ℕ) (k m x sum new : ℕ) →
    k ≡ suc m → at (picked_row c.seed c.rows m) ≡ x
    → new ≡ nim_mul (alpha c.seed) (nim_add x sum) → Splits c at k sum → Splits c at m new
unfolding sum_over nim_pow
splits_more c at k m x sum new next here made before =
    let a = alpha c.seed in
    let s = sum_over c at m in
    let p = nim_pow a m in
    ap (λ (y : ℕ). nim_add s (nim_mul p y)) made
    ∙ solve nim_ring (s ∷ p ∷ a ∷ x ∷ sum ∷ []) (v 0 ⊞ (v 1 ⊡ (v 2 ⊡ (v 3 ⊞ v 4))))
    ((v 0 ⊞ ((v 2 ⊡ v 1) ⊡ v 3)) ⊞ ((v 2 ⊡ v 1) ⊡ v 4)) refl
    ∙ ap (λ (y : ℕ). nim_add (nim_add s (nim_mul (nim_mul a p) y)) (nim_mul (nim_mul a p) sum)) (sym here)
    ∙ subst (λ (j : ℕ). Splits c at j sum) next before

-- no pick is a first one
pub splits_start : (c : Challenge) (at : ℕ → ℕ) (sum : ℕ) → Splits c at 0 sum → sum ≡ combined c at
unfolding sum_over nim_pow
splits_start c at sum all = sym (solve nim_ring (sum ∷ []) (o ⊞ (i ⊡ v 0)) (v 0) refl) ∙ all

-- what holds from one place on holds from the place before, if it holds there
pub from_more : (P : ℕ → Type 0) (n k m : ℕ) → k ≡ suc m → P m → ((j : ℕ) → k ≤ j → j < n → P j)
    → (j : ℕ) → m ≤ j → j < n → P j
from_more P n k m next here later j above below = go (nat_eq j m) refl
  where
    go : (b : Bool) → nat_eq j m ≡ b → P j
    go true same = subst P (sym (eqb-true j m same)) here
    go false differ =
        let other : j ≢ m = λ h. grind (arith, differ, h) in
        later j (let e : j ≢ m = other in omega (arith, above, next)) below

-- there is a symbol in the row of each pick
all_held-picks : (c : Challenge) (held : ℕ → Option (List ℕ)) (n : ℕ)
    → ((k : ℕ) → k < n → is_some (held_symbol c.size held (picked_row c.seed c.rows k)) ≡ true) →
    all_held c held n ≡ true
unfolding all_held
all_held-picks c held zero each = refl
all_held-picks c held (suc n) each =
    (λ i. all_held-picks c held n (λ k below. each k (omega (arith, below))) i && each n (omega arith) i)

-- then the honest answer is the sum
pub honest_answer-sum : (c : Challenge) (held : ℕ → Option (List ℕ)) (sum : ℕ)
    → ((k : ℕ) → k < c.picks → is_some (held_symbol c.size held (picked_row c.seed c.rows k)) ≡ true)
    → Splits c (λ row. unwrap_or (held_symbol c.size held row) 0) 0 sum → Some sum ≡ honest_answer c held
honest_answer-sum c held sum each all =
    let at = λ (row : ℕ). unwrap_or (held_symbol c.size held row) 0 in
    ap Some (splits_start c at sum all)
    ∙ sym (ap (λ (b : Bool). if b then Some (combined c at) else None) (all_held-picks c held c.picks each))
