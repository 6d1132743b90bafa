-- Gao's decoder finds the polynomial that agrees at enough places.
use Rattle.algebra_laws.proofs.Words.{◌≡◌, ◌≢◌, ◌≤◌, ◌+◌, ℕ, suc, refl, arith, List, [], ◌∷◌, length, Bool, true, false, cond, Some, map, Each, FieldOf, IsField, Apart, value, plus, times, agree, is_seen, Solves}
use Rattle.algebra_laws.proofs.Roots.{plus_zero}
use Rattle.algebra_laws.proofs.Values.{value-times}
use Rattle.algebra_laws.proofs.Interpolate.{length-times}

-- the points at which the value is seen
right_at : {A : Type 0} → FieldOf A → List A → List A → List A → List A
right_at F p [] ys = []
right_at F p (x ∷ xs) [] = []
right_at F p (x ∷ xs) (y ∷ ys) =
    cond (is_seen F (value F p x) (Some y)) (x ∷ right_at F p xs ys) (right_at F p xs ys)

module _ {A : Type 0} (F : FieldOf A) (laws : IsField F) where
  open F use {zero as 𝟘, one as 𝟙, add as ◌⊕◌, mul as ◌⊗◌}

  infixl 60 ◌⊕◌
  infixl 70 ◌⊗◌
  -- there are as many as agreements
  length-right_at : (p xs ys : List A) → length (right_at F p xs ys) ≡ agree F p xs (map Some ys)
  unfolding right_at agree
  length-right_at p [] ys = refl
  length-right_at p (x ∷ xs) [] = refl
  length-right_at p (x ∷ xs) (y ∷ ys) = go (is_seen F (value F p x) (Some y)) (length-right_at p xs ys)
    where
      go : (b : Bool) → length (right_at F p xs ys) ≡ agree F p xs (map Some ys) →
          length (cond b (x ∷ right_at F p xs ys) (right_at F p xs ys))
          ≡ cond b 1 0 + agree F p xs (map Some ys)
      go true h = omega arith
      go false h = omega arith

  -- what holds of each point holds of these
  Each-right_at : (P : A → Type 0) (p xs ys : List A) → Each P xs → Each P (right_at F p xs ys)
  unfolding right_at
  Each-right_at P p [] ys h = tt
  Each-right_at P p (x ∷ xs) [] h = tt
  Each-right_at P p (x ∷ xs) (y ∷ ys) h = go (is_seen F (value F p x) (Some y)) (Each-right_at P p xs ys h.1)
    where
      go : (b : Bool) → Each P (right_at F p xs ys) →
          Each P (cond b (x ∷ right_at F p xs ys) (right_at F p xs ys))
      go true t = (h.0, t)
      go false t = t

  -- they are apart
  Apart-right_at : (p xs ys : List A) → Apart xs → Apart (right_at F p xs ys)
  unfolding right_at
  Apart-right_at p [] ys d = tt
  Apart-right_at p (x ∷ xs) [] d = tt
  Apart-right_at p (x ∷ xs) (y ∷ ys) d = go (is_seen F (value F p x) (Some y)) (Apart-right_at p xs ys d.1)
    where
      go : (b : Bool) → Apart (right_at F p xs ys) →
          Apart (cond b (x ∷ right_at F p xs ys) (right_at F p xs ys))
      go true t = (Each-right_at (λ y. x ≢ y) p xs ys d.0, t)
      go false t = t

  -- what is seen is the value
  seen_is : (z y : A) → is_seen F z (Some y) ≡ true → y ≡ z
  unfolding is_seen
  seen_is z y h = laws.eq_true y z h

  -- at these points the row is its cofactor times the polynomial
  solved : (r f p xs ys : List A) → Solves F r f xs ys →
      Each (λ x. value F r x ≡ value F (times F f p) x) (right_at F p xs ys)
  unfolding right_at
  solved r f p [] ys h = tt
  solved r f p (x ∷ xs) [] h = tt
  solved r f p (x ∷ xs) (y ∷ ys) h =
      go (is_seen F (value F p x) (Some y)) (seen_is (value F p x) y) (solved r f p xs ys h.1)
    where
      go : (b : Bool) → (b ≡ true → y ≡ value F p x) →
          Each (λ x. value F r x ≡ value F (times F f p) x) (right_at F p xs ys) →
          Each (λ x. value F r x ≡ value F (times F f p) x)
          (cond b (x ∷ right_at F p xs ys) (right_at F p xs ys))
      go true e t = (cc (value-times F laws f p x, h.0, e refl), t)
      go false e t = t

  -- a row of Euclid's algorithm is its cofactor times the polynomial that agrees at all but few places
  pub row_is_product : (r f p xs ys : List A) (below keep fix : ℕ) → Apart xs → Solves F r f xs ys →
      length r ≤ below → length f + below ≤ suc (length xs) → length p ≤ suc keep →
      fix + suc keep ≤ below → below + fix ≤ length xs → length xs ≤ agree F p xs (map Some ys) + fix →
      Each (λ a. a ≡ 𝟘) (plus F r (times F f p))
  row_is_product r f p xs ys below keep fix d s hr hf hp wide narrow enough =
      plus_zero F laws (right_at F p xs ys) r (times F f p) (Apart-right_at p xs ys d) (solved r f p xs ys s)
      (omega (arith, length-right_at p xs ys))
      (omega (arith, length-right_at p xs ys, length-times F laws f p keep hp))
