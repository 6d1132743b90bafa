-- The places at which a polynomial is not 0.
use Rattle.hail_syndrome.proofs.Words.{◌≡◌, ◌≢◌, ◌≤◌, ◌<◌, ◌+◌, ℕ, zero, ◌⊎◌, inl, inr, refl, arith, List, [], ◌∷◌, length, take, Bool, true, false, cond, suc, Each, FieldOf, IsField, Apart, Takes, zero_from_roots, sound_points, sound_values}
use Rattle.algebra_laws.proofs.Each.{each_take}
use Rattle.algebra_laws.specs.Poly.{value}
use Rattle.hail_syndrome.proofs.KeyRow.{TakesWhere}

-- the points at which f is 0
pub suspected : {A : Type 0} → FieldOf A → List A → List A → List A
suspected F f [] = []
suspected F f (x ∷ xs) = cond (F.eq (value F f x) F.zero) (x ∷ suspected F f xs) (suspected F f xs)

module _ {A : Type 0} (F : FieldOf A) (laws : IsField F) (f : List A) where
  open F use {zero as 𝟘}

  -- each point is in one of the two
  length-sound : (xs : List A) → length (suspected F f xs) + length (sound_points F f xs) ≡ length xs
  unfolding suspected sound_points
  length-sound [] = refl
  length-sound (x ∷ xs) = go (F.eq (value F f x) 𝟘) (length-sound xs)
    where
      go : (b : Bool) → length (suspected F f xs) + length (sound_points F f xs) ≡ length xs →
          length (cond b (x ∷ suspected F f xs) (suspected F f xs)) + length
          (cond b (sound_points F f xs) (x ∷ sound_points F f xs)) ≡ length (x ∷ xs)
      go true h = omega arith
      go false h = omega arith

  -- as many values as points
  pub length-sound_values : (xs ys : List A) → length xs ≡ length ys →
      length (sound_values F f xs ys) ≡ length (sound_points F f xs)
  unfolding sound_values sound_points
  length-sound_values [] ys e = refl
  length-sound_values (x ∷ xs) [] e = absurd (omega arith)
  length-sound_values (x ∷ xs) (y ∷ ys) e =
      go (F.eq (value F f x) 𝟘) (length-sound_values xs ys (omega arith))
    where
      go : (b : Bool) → length (sound_values F f xs ys) ≡ length (sound_points F f xs) →
          length (cond b (sound_values F f xs ys) (y ∷ sound_values F f xs ys))
          ≡ length (cond b (sound_points F f xs) (x ∷ sound_points F f xs))
      go true h = h
      go false h = omega arith

  -- f is 0 at each suspected point
  zero_there : (xs : List A) → Each (λ x. value F f x ≡ 𝟘) (suspected F f xs)
  unfolding suspected
  zero_there [] = tt
  zero_there (x ∷ xs) = go (F.eq (value F f x) 𝟘) (laws.eq_true (value F f x) 𝟘) (zero_there xs)
    where
      go : (b : Bool) → (b ≡ true → value F f x ≡ 𝟘) → Each (λ x. value F f x ≡ 𝟘) (suspected F f xs) →
          Each (λ x. value F f x ≡ 𝟘) (cond b (x ∷ suspected F f xs) (suspected F f xs))
      go true h k = (h refl, k)
      go false h k = k

  -- what holds of each point holds of these
  Each-suspected : (P : A → Type 0) (xs : List A) → Each P xs → Each P (suspected F f xs)
  unfolding suspected
  Each-suspected P [] h = tt
  Each-suspected P (x ∷ xs) h = go (F.eq (value F f x) 𝟘) (Each-suspected P xs h.1)
    where
      go : (b : Bool) → Each P (suspected F f xs) → Each P (cond b (x ∷ suspected F f xs) (suspected F f xs))
      go true k = (h.0, k)
      go false k = k

  -- they are apart
  Apart-suspected : (xs : List A) → Apart xs → Apart (suspected F f xs)
  unfolding suspected
  Apart-suspected [] h = tt
  Apart-suspected (x ∷ xs) h = go (F.eq (value F f x) 𝟘) (Apart-suspected xs h.1)
    where
      go : (b : Bool) → Apart (suspected F f xs) → Apart (cond b (x ∷ suspected F f xs) (suspected F f xs))
      go true k = (Each-suspected (λ y. x ≢ y) xs h.0, k)
      go false k = k

  -- what holds of each point holds of the sound ones
  Each-sound : (P : A → Type 0) (xs : List A) → Each P xs → Each P (sound_points F f xs)
  unfolding sound_points
  Each-sound P [] h = tt
  Each-sound P (x ∷ xs) h = go (F.eq (value F f x) 𝟘) (Each-sound P xs h.1)
    where
      go : (b : Bool) → Each P (sound_points F f xs) →
          Each P (cond b (sound_points F f xs) (x ∷ sound_points F f xs))
      go true k = k
      go false k = (h.0, k)

  -- the sound points are apart
  pub Apart-sound : (xs : List A) → Apart xs → Apart (sound_points F f xs)
  unfolding sound_points
  Apart-sound [] h = tt
  Apart-sound (x ∷ xs) h = go (F.eq (value F f x) 𝟘) (Apart-sound xs h.1)
    where
      go : (b : Bool) → Apart (sound_points F f xs) →
          Apart (cond b (sound_points F f xs) (x ∷ sound_points F f xs))
      go true k = k
      go false k = (Each-sound (λ y. x ≢ y) xs h.0, k)

  -- a polynomial that is not 0 leaves all points but fewer than its coefficients
  pub many_sound : (xs : List A) → Apart xs → (Each (λ a. a ≡ 𝟘) f → ⊥) →
      length xs < length f + length (sound_points F f xs)
  many_sound xs apart some = go (dec (length f) (length (suspected F f xs)))
    where
      dec : (a b : ℕ) → (a ≤ b) ⊎ (b < a)
      dec a b = grind arith

      go : (length f ≤ length (suspected F f xs)) ⊎ (length (suspected F f xs) < length f) →
          length xs < length f + length (sound_points F f xs)
      go (inl le) = absurd (some
          (zero_from_roots F laws (suspected F f xs) f (Apart-suspected xs apart) (zero_there xs) le))
      go (inr lt) = omega (arith, length-sound xs)

  -- what takes the value wherever f is not 0 takes the sound values
  pub takes_sound : (p xs ys : List A) → length xs ≡ length ys → TakesWhere F f p xs ys →
      Takes F p (sound_points F f xs) (sound_values F f xs ys)
  unfolding sound_points sound_values
  takes_sound p [] ys e t = tt
  takes_sound p (x ∷ xs) [] e t = absurd (omega arith)
  takes_sound p (x ∷ xs) (y ∷ ys) e t = go (F.eq (value F f x) 𝟘) refl (takes_sound p xs ys (omega arith) t.1)
    where
      differ : F.eq (value F f x) 𝟘 ≡ false → value F f x ≢ 𝟘
      differ h e = let k : F.eq (value F f x) 𝟘 ≡ true = rw e (laws.eq_refl 𝟘) in cc

      go : (b : Bool) → F.eq (value F f x) 𝟘 ≡ b → Takes F p (sound_points F f xs) (sound_values F f xs ys) →
          Takes F p (cond b (sound_points F f xs) (x ∷ sound_points F f xs))
          (cond b (sound_values F f xs ys) (y ∷ sound_values F f xs ys))
      go true h k = k
      go false h k = (t.0 (differ h), k)

  -- the first of what is taken is taken
  pub Takes-front : (p xs ys : List A) (n : ℕ) → Takes F p xs ys → Takes F p (take n xs) (take n ys)
  Takes-front p xs ys zero t = tt
  Takes-front p [] ys (suc n) t = tt
  Takes-front p (x ∷ xs) [] (suc n) t = absurd t
  Takes-front p (x ∷ xs) (y ∷ ys) (suc n) t = (t.0, Takes-front p xs ys n t.1)

-- the first of some things that differ from each other differ from each other too
pub Apart-front : {A : Type 0} (xs : List A) (n : ℕ) → Apart xs → Apart (take n xs)
Apart-front xs zero h = tt
Apart-front [] (suc n) h = tt
Apart-front (x ∷ xs) (suc n) h = (each_take (λ y. x ≢ y) xs n h.0, Apart-front xs n h.1)
