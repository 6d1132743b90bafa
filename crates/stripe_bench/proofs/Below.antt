-- What holds of each number below one, and of that one, holds of each below the next.
use Rattle.std.proofs.Common.{◌⊎◌, ℕ, ◌+◌, ◌<◌, ◌≤◌, ◌==◌, nat_lt, sym, subst, inl, inr, arith}
use Rattle.std.proofs.lemmas.Bool.{cases_Bool, eqb-true}

pub below_more : (P : ℕ → Type 0) (n : ℕ) → ((p : ℕ) → p < n → P p) → P n → (p : ℕ) → p < n + 1 → P p
below_more P n before now p l = elim (cases_Bool (p == n)) [
  | inl t ↦ subst P (sym (eqb-true p n t)) now
  | inr f ↦ before p (grind (arith, l, f))
]

-- a number is below another or not
pub either_side : (p n : ℕ) → (p < n) ⊎ (n ≤ p)
either_side p n = elim (cases_Bool (nat_lt p n)) [
  | inl t ↦ inl (grind (arith, t))
  | inr f ↦ inr (grind (arith, f))
]
