-- A division has one quotient and one remainder.
use Rattle.hail_poly.proofs.Words.{◌≡◌, [], ◌∷◌, ℕ, List, refl, sym, ◌∙◌, ap, arith, sum_zero, v, ◌⊞◌, ◌⊡◌, solve, nim, nim_add, nim_mul, nim_laws, nim_ring, nim_endless, value_over, value-trim, length-trim, value-plus, value-times, length-plus, same_from_values, product_not_shorter, value, plus, times, trim, IsDivision}
use Rattle.hail_poly.proofs.EuclidSteps.{lead_of}
use Rattle.hail_poly.proofs.RowSteps.{trim_trim}

-- the value of 0
value-nothing : (x : ℕ) → value [] x ≡ 0
unfolding value_over
value-nothing x = refl

-- two sums of a product and a rest are one, so the products differ by what the rests differ
gap : (q d r s t : ℕ) → nim_add (nim_mul q d) r ≡ nim_add (nim_mul s d) t →
    nim_add r t ≡ nim_mul d (nim_add q s)
gap q d r s t e =
    solve nim_ring (q ∷ d ∷ r ∷ t ∷ []) (v 2 ⊞ v 3) (((v 0 ⊡ v 1) ⊞ v 2) ⊞ ((v 0 ⊡ v 1) ⊞ v 3)) refl ∙
    ap (λ u. nim_add u (nim_add (nim_mul q d) t)) e ∙
    solve nim_ring (q ∷ d ∷ s ∷ t ∷ []) (((v 2 ⊡ v 1) ⊞ v 3) ⊞ ((v 0 ⊡ v 1) ⊞ v 3)) (v 1 ⊡ (v 0 ⊞ v 2)) refl

module _ (p d q r s t : List ℕ) (trimmed : d ≡ trim d) (first : IsDivision p d q r)
    (second : IsDivision p d s t) where
  -- the quotients are one where their sum is zero
  same_if_zero : (a b : List ℕ) → a ≡ trim a → b ≡ trim b → ((x : ℕ) → nim_add (value a x) (value b x) ≡ 0) →
      a ≡ b
  same_if_zero a b ta tb zero = ta ∙ same_from_values nim nim_laws nim_endless a b
      (λ x. sum_zero nim_ring (value a x) (value b x) (zero x)) ∙ sym tb

  gap_at : (x : ℕ) → nim_add (value r x) (value t x) ≡ nim_mul (value d x) (nim_add (value q x) (value s x))
  gap_at x = gap (value q x) (value d x) (value r x) (value s x) (value t x)
      (sym (first.values x) ∙ second.values x)

  quotient_zero : (u : List ℕ) → trim (plus q s) ≡ u → (x : ℕ) → nim_add (value q x) (value s x) ≡ 0
  quotient_zero [] e x =
      sym (value-plus nim nim_laws q s x) ∙ sym (value-trim nim nim_laws (plus q s) x) ∙ ap (λ u. value u x) e
      ∙ value-nothing x
  quotient_zero (a ∷ u) e x = absurd (product_not_shorter nim nim_laws d (a ∷ u) (trim (plus r t))
      (omega (arith, first.shorter)) (omega arith) (lead_of d trimmed (omega (arith, first.shorter)))
      (lead_of (a ∷ u) (sym e ∙ sym (trim_trim (plus q s)) ∙ ap trim e) (omega arith))
      (same_from_values nim nim_laws nim_endless (plus r t) (times d (a ∷ u)) at_any) (omega (
        arith,
        length-trim nim nim_laws (plus r t),
        length-plus nim nim_laws r t,
        first.shorter,
        second.shorter,
      )))
    where
      at_any : (y : ℕ) → value (plus r t) y ≡ value (times d (a ∷ u)) y
      at_any y = value-plus nim nim_laws r t y ∙ gap_at y ∙
          ap (nim_mul (value d y)) (sym (value-plus nim nim_laws q s y)
          ∙ sym (value-trim nim nim_laws (plus q s) y) ∙ ap (λ w. value w y) e) ∙
          sym (value-times nim nim_laws d (a ∷ u) y)

  -- the quotients are one
  pub same_quotient : q ≡ s
  same_quotient = same_if_zero q s first.quotient second.quotient (quotient_zero (trim (plus q s)) refl)

  -- the remainders are one
  pub same_remainder : r ≡ t
  same_remainder = same_if_zero r t first.rest second.rest
      (λ x. gap_at x ∙ ap (nim_mul (value d x)) (quotient_zero (trim (plus q s)) refl x)
      ∙ nim_ring.mul_zero (value d x))
