-- The last coefficient of a product.
use Rattle.algebra_laws.proofs.Words.{◌≡◌, ◌≢◌, ◌<◌, ◌+◌, ◌-◌, ℕ, zero, suc, sym, ◌∙◌, ap, refl, arith, List, [], ◌∷◌, length, Bool, true, false, cond, get_or, get_or_past, FieldOf, IsField, scale, times, trim, front}
use Rattle.algebra_laws.proofs.Ring.{zero_add}
use Rattle.algebra_laws.proofs.Inverse.{factor_zero}
use Rattle.algebra_laws.proofs.Division.{get_or-plus, get_or-scale}

module _ {A : Type 0} (F : FieldOf A) (laws : IsField F) where
  open F use {zero as 𝟘, one as 𝟙, add as ◌⊕◌, mul as ◌⊗◌}

  infixl 60 ◌⊕◌
  infixl 70 ◌⊗◌
  -- a coefficient before others is one of them, also where it is zero
  get_or-front : (a : A) (p : List A) (k : ℕ) → get_or (front F a p) k 𝟘 ≡ get_or (a ∷ p) k 𝟘
  unfolding front
  get_or-front a [] k = go (F.eq a 𝟘) (laws.eq_true a 𝟘) k
    where
      go : (b : Bool) → (b ≡ true → a ≡ 𝟘) → (k : ℕ) → get_or (cond b [] (a ∷ [])) k 𝟘 ≡ get_or (a ∷ []) k 𝟘
      go true h zero = sym (h refl)
      go true h (suc k) = refl
      go false h k = refl
  get_or-front a (b ∷ p) k = refl

  -- no coefficient changes where zeros at the end go
  pub get_or-trim : (p : List A) (k : ℕ) → get_or (trim F p) k 𝟘 ≡ get_or p k 𝟘
  unfolding trim
  get_or-trim [] k = refl
  get_or-trim (a ∷ p) zero = get_or-front a (trim F p) zero
  get_or-trim (a ∷ p) (suc k) = get_or-front a (trim F p) (suc k) ∙ get_or-trim p k

  -- the polynomial 0 has no other coefficient
  get_or-zero : (k : ℕ) → get_or (𝟘 ∷ []) k 𝟘 ≡ 𝟘
  get_or-zero zero = refl
  get_or-zero (suc k) = refl

  -- the last coefficient of a product is the product of the last coefficients
  get_or-times : (p q : List A) (m n k : ℕ) → length p ≡ suc m → length q ≡ suc n → k ≡ m + n →
      get_or (times F p q) k 𝟘 ≡ get_or p m 𝟘 ⊗ get_or q n 𝟘
  unfolding times
  get_or-times [] q m n k hp hq e = absurd (omega arith)
  get_or-times (a ∷ []) q zero n k hp hq e =
      let same : k ≡ n = omega arith in
      cc (
        get_or-plus F laws (scale F a q) (𝟘 ∷ []) k,
        get_or-scale F laws a q k,
        same,
        get_or-zero k,
        laws.ring.add_zero (a ⊗ get_or q k 𝟘),
      )
  get_or-times (a ∷ []) q (suc m) n k hp hq e = absurd (omega arith)
  get_or-times (a ∷ b ∷ p) q zero n k hp hq e = absurd (omega arith)
  get_or-times (a ∷ b ∷ p) q (suc m) n zero hp hq e = absurd (omega arith)
  get_or-times (a ∷ b ∷ p) q (suc m) n (suc k) hp hq e =
      get_or-plus F laws (scale F a q) (𝟘 ∷ times F (b ∷ p) q) (suc k) ∙
      cc (
        get_or-scale F laws a q (suc k),
        get_or_past q (suc k) 𝟘 (omega arith),
        laws.ring.mul_zero a,
        zero_add laws.ring (get_or (times F (b ∷ p) q) k 𝟘),
        get_or-times (b ∷ p) q m n k (omega arith) (omega arith) (omega arith),
      )

  -- a product of two polynomials that are not zero is no shorter than its first factor
  pub product_not_shorter : (f w r : List A) → 0 < length f → 0 < length w → get_or f (length f - 1) 𝟘 ≢ 𝟘 →
      get_or w (length w - 1) 𝟘 ≢ 𝟘 → r ≡ trim F (times F f w) → length r < length f → ⊥
  product_not_shorter f w r some_f some_w last_f last_w is less =
      last_w (factor_zero F laws (get_or f m 𝟘) (get_or w n 𝟘)
      (sym (get_or-times f w m n (m + n) (omega arith) (omega arith) refl)
      ∙ sym (get_or-trim (times F f w) (m + n)) ∙
      ap (λ p. get_or p (m + n) 𝟘) (sym is) ∙ get_or_past r (m + n) 𝟘 (omega arith)) last_f)
    where
      m : ℕ
      m = length f - 1

      n : ℕ
      n = length w - 1
