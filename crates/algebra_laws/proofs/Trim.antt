-- Zeros at the end.
use Rattle.algebra_laws.proofs.Words.{◌≡◌, ◌≢◌, ◌≤◌, ◌++◌, suc, sym, ◌∙◌, ap, refl, arith, List, [], ◌∷◌, length, Bool, true, false, cond, Each, FieldOf, IsField, value, plus, trim, front}
use Rattle.algebra_laws.proofs.Ring.{sum_zero}

module _ {A : Type 0} (F : FieldOf A) (laws : IsField F) where
  open F use {zero as 𝟘, one as 𝟙, add as ◌⊕◌, mul as ◌⊗◌}

  infixl 60 ◌⊕◌
  infixl 70 ◌⊗◌
  -- the value of a coefficient before others
  value-front : (a : A) (p : List A) (x : A) → value F (front F a p) x ≡ a ⊕ (x ⊗ value F p x)
  unfolding front value
  value-front a [] x = go (F.eq a 𝟘) (laws.eq_true a 𝟘)
    where
      go : (b : Bool) → (b ≡ true → a ≡ 𝟘) → value F (cond b [] (a ∷ [])) x ≡ a ⊕ (x ⊗ 𝟘)
      go true h = cc (h refl, laws.ring.mul_zero x, laws.ring.add_zero a)
      go false h = refl
  value-front a (b ∷ p) x = refl

  -- the value stays
  pub value-trim : (p : List A) (x : A) → value F (trim F p) x ≡ value F p x
  unfolding trim value
  value-trim [] x = refl
  value-trim (a ∷ p) x = value-front a (trim F p) x ∙ ap (λ t. a ⊕ (x ⊗ t)) (value-trim p x)

  -- at most one coefficient more
  length-front : (a : A) (q : List A) → length (front F a q) ≤ suc (length q)
  unfolding front
  length-front a [] = go (F.eq a 𝟘)
    where
      go : (b : Bool) → length (cond b [] (a ∷ [])) ≤ 1
      go true = omega arith
      go false = omega arith
  length-front a (b ∷ q) = omega arith

  -- no more coefficients
  pub length-trim : (p : List A) → length (trim F p) ≤ length p
  unfolding trim
  length-trim [] = omega arith
  length-trim (a ∷ p) = let h = length-trim p in omega (arith, length-front a (trim F p))

  -- zeros are nothing
  pub trim-zero : (p : List A) → Each (λ a. a ≡ 𝟘) p → trim F p ≡ []
  unfolding trim front
  trim-zero [] z = refl
  trim-zero (a ∷ p) z = rw (trim-zero p z.1, z.0, laws.eq_refl 𝟘) refl

  -- equal polynomials have one trimmed list
  pub trim_same : (p q : List A) → Each (λ a. a ≡ 𝟘) (plus F p q) → trim F p ≡ trim F q
  unfolding trim plus
  trim_same [] q z = sym (trim-zero q z)
  trim_same (a ∷ p) [] z = trim-zero (a ∷ p) z
  trim_same (a ∷ p) (b ∷ q) z = cc (sum_zero laws.ring a b z.0, trim_same p q z.1)

  -- a zero at the end makes no difference
  pub trim-zero_last : (p : List A) (a : A) → a ≡ 𝟘 → trim F (p ++ a ∷ []) ≡ trim F p
  unfolding trim front
  trim-zero_last [] a e = rw (e, laws.eq_refl 𝟘) refl
  trim-zero_last (b ∷ p) a e = ap (λ t. front F b t) (trim-zero_last p a e)

  -- the test finds what is not zero
  not_eq : (a : A) → a ≢ 𝟘 → F.eq a 𝟘 ≡ false
  not_eq a ne = go (F.eq a 𝟘) (laws.eq_true a 𝟘)
    where
      go : (b : Bool) → (b ≡ true → a ≡ 𝟘) → b ≡ false
      go true h = absurd (ne (h refl))
      go false h = refl

  -- a coefficient before others that end with one
  front-append : (b : A) (p : List A) (a : A) → front F b (p ++ a ∷ []) ≡ b ∷ (p ++ a ∷ [])
  unfolding front
  front-append b [] a = refl
  front-append b (x ∷ p) a = refl

  -- a last coefficient that is not zero stays
  pub trim-last : (p : List A) (a : A) → a ≢ 𝟘 → trim F (p ++ a ∷ []) ≡ p ++ a ∷ []
  unfolding trim front
  trim-last [] a ne = rw (not_eq a ne) refl
  trim-last (b ∷ p) a ne = ap (λ t. front F b t) (trim-last p a ne) ∙ front-append b p a
