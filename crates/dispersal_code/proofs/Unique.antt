-- At most one polynomial is accepted.
use Rattle.dispersal_code.proofs.Words.{◌≡◌, ◌≤◌, ℕ, List, [], ◌∷◌, length, Option, Some, None, arith, Each, Apart, nim, IsShape, nim_laws, present, unique, trim_same, value, plus, trim, Accepts}
use Rattle.algebra_laws.proofs.Roots.{same_values}

-- no more symbols are present than there are places
present_at_most : (ss : List (Option ℕ)) → present ss ≤ length ss
unfolding present
present_at_most [] = omega arith
present_at_most (None ∷ ss) = omega (arith, present_at_most ss)
present_at_most (Some s ∷ ss) = omega (arith, present_at_most ss)

module _ (n l b : ℕ) (points : List ℕ) (seen : List (Option ℕ)) (p q : List ℕ) (shape : IsShape n l b)
    (apart : Apart points)
    (even : length points ≡ length seen) (whole : length seen ≡ n) (first : Accepts points seen l b p)
    (second : Accepts points seen l b q) where
  -- the sum of two accepted polynomials is zero
  pub sum_zero : Each (λ (a : ℕ). a ≡ 0) (plus p q)
  sum_zero = unique nim nim_laws p q points seen l apart first.degree second.degree
      (omega (arith, shape, first.agrees, second.agrees, present_at_most seen))

  -- so they are one
  pub same_trim : trim p ≡ trim q
  same_trim = trim_same nim nim_laws p q sum_zero

  -- and have one value everywhere
  pub same_value : (x : ℕ) → value p x ≡ value q x
  same_value = same_values nim nim_laws p q sum_zero
