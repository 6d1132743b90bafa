-- A polynomial with as many roots as coefficients is zero.
use Rattle.algebra_laws.proofs.Words.{◌≡◌, ◌≢◌, ◌≤◌, sym, ◌∙◌, ap, refl, arith, List, [], ◌∷◌, length, max, Each, FieldOf, IsField, Apart, value, plus}
use Rattle.algebra_laws.proofs.Ring.{zero_add, sum_zero}
use Rattle.algebra_laws.proofs.Inverse.{factor_zero}
use Rattle.algebra_laws.proofs.Solve.{v, o, ◌⊞◌, ◌⊡◌, solve}
use Rattle.algebra_laws.proofs.Values.{value-plus}

-- the quotient of a + x * p by x + r, for any a
pub quotient_at : {A : Type 0} → FieldOf A → A → List A → List A
quotient_at F r [] = []
quotient_at F r (b ∷ p) = value F (b ∷ p) r ∷ quotient_at F r p

module _ {A : Type 0} (F : FieldOf A) (laws : IsField F) where
  open F use {zero as 𝟘, one as 𝟙, add as ◌⊕◌, mul as ◌⊗◌}

  infixl 60 ◌⊕◌
  infixl 70 ◌⊗◌
  -- the quotient has as many coefficients
  length-quotient_at : (r : A) (p : List A) → length (quotient_at F r p) ≡ length p
  unfolding quotient_at
  length-quotient_at r [] = refl
  length-quotient_at r (b ∷ p) = let h = length-quotient_at r p in omega arith

  -- the value by the quotient and the remainder
  pub value-quotient_at : (r : A) (a : A) (p : List A) (x : A) →
      value F (a ∷ p) x ≡ value F (a ∷ p) r ⊕ ((x ⊕ r) ⊗ value F (quotient_at F r p) x)
  unfolding quotient_at value
  value-quotient_at r a [] x =
      solve laws.ring (a ∷ x ∷ r ∷ []) (v 0 ⊞ (v 1 ⊡ o)) ((v 0 ⊞ (v 2 ⊡ o)) ⊞ ((v 1 ⊞ v 2) ⊡ o)) refl
  value-quotient_at r a (b ∷ p) x = ap (λ t. a ⊕ (x ⊗ t)) (value-quotient_at r b p x) ∙
      solve laws.ring (a ∷ x ∷ r ∷ value F (b ∷ p) r ∷ value F (quotient_at F r p) x ∷ [])
      (v 0 ⊞ (v 1 ⊡ (v 3 ⊞ ((v 1 ⊞ v 2) ⊡ v 4))))
      ((v 0 ⊞ (v 2 ⊡ v 3)) ⊞ ((v 1 ⊞ v 2) ⊡ (v 3 ⊞ (v 1 ⊡ v 4)))) refl

  -- a further root is a root of the quotient
  root_below : (a : A) (p : List A) (r s : A) → r ≢ s → value F (a ∷ p) r ≡ 𝟘 → value F (a ∷ p) s ≡ 𝟘 →
      value F (quotient_at F r p) s ≡ 𝟘
  root_below a p r s ne hr hs = factor_zero F laws (s ⊕ r) (value F (quotient_at F r p) s)
      (cc (value-quotient_at r a p s, hr, hs, zero_add laws.ring ((s ⊕ r) ⊗ value F (quotient_at F r p) s)))
      (λ e. ne (sym (sum_zero laws.ring s r e)))

  -- further roots are roots of the quotient
  pub roots_below : (a : A) (p : List A) (r : A) (rs : List A) → Each (λ s. r ≢ s) rs →
      value F (a ∷ p) r ≡ 𝟘 →
      Each (λ s. value F (a ∷ p) s ≡ 𝟘) rs → Each (λ s. value F (quotient_at F r p) s ≡ 𝟘) rs
  roots_below a p r [] ne hr hs = tt
  roots_below a p r (s ∷ rs) ne hr hs = (root_below a p r s ne.0 hr hs.0, roots_below a p r rs ne.1 hr hs.1)

  -- zeros have the value zero
  pub value-zero : (p : List A) (x : A) → Each (λ a. a ≡ 𝟘) p → value F p x ≡ 𝟘
  unfolding value
  value-zero [] x z = refl
  value-zero (a ∷ p) x z = cc (z.0, value-zero p x z.1, laws.ring.mul_zero x, laws.ring.add_zero a)

  -- where the quotient is zero, so is the polynomial
  zero_from_quotient : (r : A) (p : List A) → Each (λ a. a ≡ 𝟘) (quotient_at F r p) → Each (λ a. a ≡ 𝟘) p
  unfolding quotient_at value
  zero_from_quotient r [] z = tt
  zero_from_quotient r (b ∷ p) z =
      let below = zero_from_quotient r p z.1 in
      (cc (z.0, value-zero p r below, laws.ring.mul_zero r, laws.ring.add_zero b), below)

  -- a polynomial with as many roots as coefficients is zero
  pub zero_from_roots : (points p : List A) → Apart points → Each (λ x. value F p x ≡ 𝟘) points →
      length p ≤ length points → Each (λ a. a ≡ 𝟘) p
  unfolding value
  zero_from_roots points [] d z le = tt
  zero_from_roots [] (a ∷ p) d z le = absurd (omega arith)
  zero_from_roots (r ∷ rs) (a ∷ p) d z le =
      let below : Each (λ b. b ≡ 𝟘) p =
      zero_from_quotient r p (zero_from_roots rs (quotient_at F r p) d.1 (roots_below a p r rs d.0 z.0 z.1)
      (omega (arith, length-quotient_at r p))) in
      (cc (z.0, value-zero p r below, laws.ring.mul_zero r, laws.ring.add_zero a), below)

  -- the sum has as many coefficients as the longer part
  pub length-plus : (p q : List A) → length (plus F p q) ≡ max (length p) (length q)
  unfolding plus
  length-plus [] q = omega arith
  length-plus (a ∷ p) [] = omega arith
  length-plus (a ∷ p) (b ∷ q) = let h = length-plus p q in omega arith

  -- two polynomials that meet at as many points as they have coefficients are one
  pub plus_zero : (points p q : List A) → Apart points → Each (λ x. value F p x ≡ value F q x) points →
      length p ≤ length points → length q ≤ length points → Each (λ a. a ≡ 𝟘) (plus F p q)
  plus_zero points p q d e hp hq =
      zero_from_roots points (plus F p q) d (meet points e) (omega (arith, length-plus p q))
    where
      meet : (xs : List A) → Each (λ x. value F p x ≡ value F q x) xs →
          Each (λ x. value F (plus F p q) x ≡ 𝟘) xs
      meet [] e = tt
      meet (x ∷ xs) e = (cc (value-plus F laws p q x, e.0, laws.ring.add_self (value F q x)), meet xs e.1)

  -- polynomials whose sum is zero have one value
  pub same_values : (p q : List A) → Each (λ a. a ≡ 𝟘) (plus F p q) → (x : A) → value F p x ≡ value F q x
  same_values p q z x = sum_zero laws.ring (value F p x) (value F q x)
      (sym (value-plus F laws p q x) ∙ value-zero (plus F p q) x z)
