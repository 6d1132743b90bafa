-- The steps of the methods of a Work.
use Rattle.hail_poly.proofs.Words.{◌≡◌, ◌≤◌, ◌<◌, [], ◌∷◌, ℕ, List, length, refl, sym, ◌∙◌, ap, arith, sum_zero, v, o, i, ◌⊞◌, ◌⊡◌, solve, nim, nim_add, nim_mul, nim_laws, nim_ring, nim_endless, value_over, trim_over, value-trim, value-plus, value-times, same_from_values, product_not_shorter, value, plus, times, trim, value-constant, Reduces, IsProduct, IsQuotient, HasNoQuotient}
use Rattle.hail_poly.proofs.EuclidSteps.{lead_of}
use Rattle.hail_poly.proofs.RowSteps.{trim_trim}

-- a cofactor that began with 0 and lost multiples of 1 is the quotient
pub by_is : (p z f r q : List ℕ) (h : Reduces p z f (1 ∷ []) r q) (x : ℕ) → value z x ≡ 0 →
    value h.by x ≡ value q x
by_is p z f r q h x zero = sum_zero nim_ring (value h.by x) (value q x)
    (cc (h.factor x, zero, value-constant 1 x, nim_ring.mul_one (value h.by x)))

-- where no remainder is left, the cofactor is the quotient
pub quotient_is : (p f r q : List ℕ) → Reduces (trim p) [] f (1 ∷ []) r q → length r ≤ 0 →
    IsQuotient p f (trim q)
unfolding value_over
quotient_is p f (a ∷ r) q h none = absurd (omega arith)
quotient_is p f [] q h none = record { product = product; trimmed = sym (trim_trim q) }
  where
    product : IsProduct p f (trim q)
    product x = cc (
      value-trim nim nim_laws p x,
      h.rest x,
      nim_ring.add_zero (nim_mul (value h.by x) (value f x)),
      by_is (trim p) [] f [] q h x refl,
      nim_ring.mul_comm (value h.by x) (value f x),
      value-trim nim nim_laws q x,
    )

-- where a remainder is left, there is no quotient
pub no_quotient : (p f r q : List ℕ) → Reduces (trim p) [] f (1 ∷ []) r q → r ≡ trim r → 0 < length r →
    length r < length f → f ≡ trim f → HasNoQuotient p f
unfolding value_over trim_over
no_quotient p f r q h trimmed some less lead = record { none = none }
  where
    none : (w : List ℕ) → IsProduct p f w → ⊥
    none w is = go (trim (plus w h.by)) refl
      where
        at_any : (x : ℕ) → value r x ≡ nim_mul (value f x) (value (trim (plus w h.by)) x)
        at_any x = solve nim_ring (value r x ∷ value h.by x ∷ value f x ∷ []) (v 0)
            ((v 1 ⊡ v 2) ⊞ ((v 1 ⊡ v 2) ⊞ v 0)) refl ∙
            ap (λ t. nim_add (nim_mul (value h.by x) (value f x)) t)
            (sym (h.rest x) ∙ value-trim nim nim_laws p x ∙ is x) ∙
            solve nim_ring (value h.by x ∷ value f x ∷ value w x ∷ []) ((v 0 ⊡ v 1) ⊞ (v 1 ⊡ v 2))
            (v 1 ⊡ (v 2 ⊞ v 0)) refl ∙
            ap (nim_mul (value f x))
            (sym (value-trim nim nim_laws (plus w h.by) x ∙ value-plus nim nim_laws w h.by x))

        go : (u : List ℕ) → trim (plus w h.by) ≡ u → ⊥
        go [] e =
            let zero : trim r ≡ trim [] =
            same_from_values nim nim_laws nim_endless r []
            (λ x. at_any x ∙ ap (λ u. nim_mul (value f x) (value u x)) e ∙ nim_ring.mul_zero (value f x)) in
            omega (arith, ap length (trimmed ∙ zero))
        go (a ∷ u) e = product_not_shorter nim nim_laws f (a ∷ u) r (omega arith) (omega arith)
            (lead_of f lead (omega arith))
            (lead_of (a ∷ u) (sym e ∙ sym (trim_trim (plus w h.by)) ∙ ap trim e) (omega arith))
            (trimmed ∙ same_from_values nim nim_laws nim_endless r (times f (a ∷ u))
            (λ x. at_any x ∙ ap (λ u. nim_mul (value f x) (value u x)) e
            ∙ sym (value-times nim nim_laws f (a ∷ u) x))) less

-- the rows that a division begins with
pub begun : (p f r0 f0 g r q : List ℕ) → Reduces r0 f0 g (1 ∷ []) r q → r0 ≡ trim p → f0 ≡ [] → g ≡ f →
    Reduces (trim p) [] f (1 ∷ []) r q
begun p f r0 f0 g r q h is_r is_f is_g = rw (is_r, is_f, is_g) at h
