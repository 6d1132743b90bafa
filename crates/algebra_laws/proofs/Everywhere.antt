-- Polynomials that have one value everywhere.
use Rattle.algebra_laws.proofs.Words.{◌≡◌, ◌≢◌, ◌≤◌, ◌+◌, ℕ, suc, refl, inl, inr, ◌⊎◌, arith, List, [], ◌∷◌, length, Bool, true, false, cond, Each, FieldOf, IsField, Apart, IsEndless, value, trim}
use Rattle.algebra_laws.proofs.Roots.{plus_zero, zero_from_roots}
use Rattle.algebra_laws.proofs.Inverse.{factor_zero}
use Rattle.algebra_laws.proofs.Trim.{trim_same}

-- the points at which the test answers b
pub where_is : {A : Type 0} → (A → Bool) → List A → List A
where_is t [] = []
where_is t (x ∷ xs) = cond (t x) (x ∷ where_is t xs) (where_is t xs)

-- the points at which it does not
pub where_not : {A : Type 0} → (A → Bool) → List A → List A
where_not t [] = []
where_not t (x ∷ xs) = cond (t x) (where_not t xs) (x ∷ where_not t xs)

module _ {A : Type 0} (t : A → Bool) where
  -- each point is in one of the two
  length-split : (xs : List A) → length (where_is t xs) + length (where_not t xs) ≡ length xs
  unfolding where_is where_not
  length-split [] = refl
  length-split (x ∷ xs) = go (t x) (length-split xs)
    where
      go : (b : Bool) → length (where_is t xs) + length (where_not t xs) ≡ length xs →
          length (cond b (x ∷ where_is t xs) (where_is t xs)) + length
          (cond b (where_not t xs) (x ∷ where_not t xs)) ≡ suc (length xs)
      go true h = omega arith
      go false h = omega arith

  -- what holds of each holds where the test answers true
  Each-is : (P : A → Type 0) (xs : List A) → Each P xs → Each P (where_is t xs)
  unfolding where_is
  Each-is P [] h = tt
  Each-is P (x ∷ xs) h = go (t x) (Each-is P xs h.1)
    where
      go : (b : Bool) → Each P (where_is t xs) → Each P (cond b (x ∷ where_is t xs) (where_is t xs))
      go true k = (h.0, k)
      go false k = k

  -- and where it does not
  Each-not : (P : A → Type 0) (xs : List A) → Each P xs → Each P (where_not t xs)
  unfolding where_not
  Each-not P [] h = tt
  Each-not P (x ∷ xs) h = go (t x) (Each-not P xs h.1)
    where
      go : (b : Bool) → Each P (where_not t xs) → Each P (cond b (where_not t xs) (x ∷ where_not t xs))
      go true k = k
      go false k = (h.0, k)

  -- the first points are apart
  Apart-is : (xs : List A) → Apart xs → Apart (where_is t xs)
  unfolding where_is
  Apart-is [] h = tt
  Apart-is (x ∷ xs) h = go (t x) (Apart-is xs h.1)
    where
      go : (b : Bool) → Apart (where_is t xs) → Apart (cond b (x ∷ where_is t xs) (where_is t xs))
      go true k = (Each-is (λ y. x ≢ y) xs h.0, k)
      go false k = k

  -- and the others
  Apart-not : (xs : List A) → Apart xs → Apart (where_not t xs)
  unfolding where_not
  Apart-not [] h = tt
  Apart-not (x ∷ xs) h = go (t x) (Apart-not xs h.1)
    where
      go : (b : Bool) → Apart (where_not t xs) → Apart (cond b (where_not t xs) (x ∷ where_not t xs))
      go true k = k
      go false k = (Each-not (λ y. x ≢ y) xs h.0, k)

  -- what the test says holds of the first
  pub passes : (P : A → Type 0) → ((x : A) → t x ≡ true → P x) → (xs : List A) → Each P (where_is t xs)
  unfolding where_is
  passes P h [] = tt
  passes P h (x ∷ xs) = go (t x) (h x) (passes P h xs)
    where
      go : (b : Bool) → (b ≡ true → P x) → Each P (where_is t xs) →
          Each P (cond b (x ∷ where_is t xs) (where_is t xs))
      go true f k = (f refl, k)
      go false f k = k

  -- and of the others
  pub fails : (P : A → Type 0) → ((x : A) → t x ≡ false → P x) → (xs : List A) → Each P (where_not t xs)
  unfolding where_not
  fails P h [] = tt
  fails P h (x ∷ xs) = go (t x) (h x) (fails P h xs)
    where
      go : (b : Bool) → (b ≡ false → P x) → Each P (where_not t xs) →
          Each P (cond b (where_not t xs) (x ∷ where_not t xs))
      go true f k = k
      go false f k = (f refl, k)

module _ {A : Type 0} (F : FieldOf A) (laws : IsField F) (endless : IsEndless A) where
  open F use {zero as 𝟘, one as 𝟙, add as ◌⊕◌, mul as ◌⊗◌}

  infixl 60 ◌⊕◌
  infixl 70 ◌⊗◌
  -- what holds everywhere holds of each
  pub Each-all : (P : A → Type 0) → ((x : A) → P x) → (xs : List A) → Each P xs
  Each-all P h [] = tt
  Each-all P h (x ∷ xs) = (h x, Each-all P h xs)

  -- polynomials of one value everywhere are one
  pub same_from_values : (p q : List A) → ((x : A) → value F p x ≡ value F q x) → trim F p ≡ trim F q
  same_from_values p q h =
      let n : ℕ = length p + length q in
      trim_same F laws p q
      (plus_zero F laws (endless.some n) p q (endless.Apart-some n)
      (Each-all (λ x. value F p x ≡ value F q x) h (endless.some n))
      (omega (arith, endless.length-some n)) (omega (arith, endless.length-some n)))

  -- what the test finds other than zero is not zero
  nonzero : (x : A) → F.eq x 𝟘 ≡ false → x ≢ 𝟘
  nonzero x h e = let k : F.eq x 𝟘 ≡ true = rw e (laws.eq_refl 𝟘) in cc

  -- a product that is zero everywhere has a factor that is zero
  pub cancel : (f w : List A) → (Each (λ a. a ≡ 𝟘) f → ⊥) → ((x : A) → value F f x ⊗ value F w x ≡ 𝟘) →
      Each (λ a. a ≡ 𝟘) w
  cancel f w some h = go (dec (length f) (length (where_is t S)))
    where
      n : ℕ
      n = length f + length w

      S : List A
      S = endless.some n

      t : A → Bool
      t x = F.eq (value F f x) 𝟘

      dec : (a b : ℕ) → (a ≤ b) ⊎ (suc b ≤ a)
      dec a b = grind arith

      go : (length f ≤ length (where_is t S)) ⊎ (suc (length (where_is t S)) ≤ length f) → Each (λ a. a ≡ 𝟘) w
      go (inl le) = absurd (some
          (zero_from_roots F laws (where_is t S) f (Apart-is t S (endless.Apart-some n))
          (passes t (λ x. value F f x ≡ 𝟘) (λ x e. laws.eq_true (value F f x) 𝟘 e) S) le))
      go (inr lt) = zero_from_roots F laws (where_not t S) w (Apart-not t S (endless.Apart-some n))
          (fails t (λ x. value F w x ≡ 𝟘)
          (λ x e. factor_zero F laws (value F f x) (value F w x) (h x) (nonzero (value F f x) e)) S)
          (omega (arith, length-split t S, endless.length-some n))
