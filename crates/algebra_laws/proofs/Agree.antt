-- Two polynomials that agree with a list of symbols at enough places are equal.
use Rattle.algebra_laws.proofs.Words.{◌≡◌, ◌≢◌, ◌≤◌, ◌+◌, ℕ, refl, arith, List, [], ◌∷◌, length, Bool, true, false, cond, Option, Some, None, Each, FieldOf, IsField, Apart, value, plus, agree, is_seen, present}
use Rattle.algebra_laws.proofs.Roots.{plus_zero}
use Rattle.algebra_laws.proofs.Steps.{is_seen-none}

-- the points at which both are seen
pub common : {A : Type 0} → FieldOf A → List A → List A → List A → List (Option A) → List A
common F p q [] seen = []
common F p q (x ∷ xs) [] = []
common F p q (x ∷ xs) (s ∷ ss) = cond (is_seen F (value F p x) s)
    (cond (is_seen F (value F q x) s) (x ∷ common F p q xs ss) (common F p q xs ss)) (common F p q xs ss)

module _ {A : Type 0} (F : FieldOf A) (laws : IsField F) where
  -- one symbol is seen as one value
  seen_same : (y z : A) (s : Option A) → is_seen F y s ≡ true → is_seen F z s ≡ true → y ≡ z
  unfolding is_seen
  seen_same y z None h k = cc
  seen_same y z (Some s) h k = cc (laws.eq_true s y h, laws.eq_true s z k)

  -- no more agreements than symbols present
  pub agree_le : (p : List A) (xs : List A) (ss : List (Option A)) → agree F p xs ss ≤ present ss
  unfolding agree present
  agree_le p [] ss = omega arith
  agree_le p (x ∷ xs) [] = omega arith
  agree_le p (x ∷ xs) (None ∷ ss) =
      let h = agree_le p xs ss in rw (is_seen-none F (value F p x)) (omega arith)
  agree_le p (x ∷ xs) (Some s ∷ ss) = go (is_seen F (value F p x) (Some s)) (agree_le p xs ss)
    where
      go : (b : Bool) → agree F p xs ss ≤ present ss → cond b 1 0 + agree F p xs ss ≤ 1 + present ss
      go true h = omega arith
      go false h = omega arith

  -- agreements of both are at least the sum of the agreements less the symbols present
  count_common : (p q : List A) (xs : List A) (ss : List (Option A)) →
      agree F p xs ss + agree F q xs ss ≤ present ss + length (common F p q xs ss)
  unfolding agree present common
  count_common p q [] ss = omega arith
  count_common p q (x ∷ xs) [] = omega arith
  count_common p q (x ∷ xs) (None ∷ ss) = let h =
      count_common p q xs ss in rw (is_seen-none F (value F p x), is_seen-none F (value F q x)) (omega arith)
  count_common p q (x ∷ xs) (Some s ∷ ss) =
      go (is_seen F (value F p x) (Some s)) (is_seen F (value F q x) (Some s)) (count_common p q xs ss)
    where
      go : (b c : Bool) → agree F p xs ss + agree F q xs ss ≤ present ss + length (common F p q xs ss) →
          (cond b 1 0 + agree F p xs ss) + (cond c 1 0 + agree F q xs ss) ≤
          (1 + present ss) + length
          (cond b (cond c (x ∷ common F p q xs ss) (common F p q xs ss)) (common F p q xs ss))
      go true true h = omega arith
      go true false h = omega arith
      go false true h = omega arith
      go false false h = omega arith

  -- what holds of each point holds of each common one
  Each-common : (P : A → Type 0) (p q : List A) (xs : List A) (ss : List (Option A)) → Each P xs →
      Each P (common F p q xs ss)
  unfolding common
  Each-common P p q [] ss h = tt
  Each-common P p q (x ∷ xs) [] h = tt
  Each-common P p q (x ∷ xs) (s ∷ ss) h =
      go (is_seen F (value F p x) s) (is_seen F (value F q x) s) (Each-common P p q xs ss h.1)
    where
      go : (b c : Bool) → Each P (common F p q xs ss) →
          Each P (cond b (cond c (x ∷ common F p q xs ss) (common F p q xs ss)) (common F p q xs ss))
      go true true t = (h.0, t)
      go true false t = t
      go false c t = t

  -- the common points are apart
  Apart-common : (p q : List A) (xs : List A) (ss : List (Option A)) → Apart xs → Apart (common F p q xs ss)
  unfolding common
  Apart-common p q [] ss d = tt
  Apart-common p q (x ∷ xs) [] d = tt
  Apart-common p q (x ∷ xs) (s ∷ ss) d =
      go (is_seen F (value F p x) s) (is_seen F (value F q x) s) (Apart-common p q xs ss d.1)
    where
      go : (b c : Bool) → Apart (common F p q xs ss) →
          Apart (cond b (cond c (x ∷ common F p q xs ss) (common F p q xs ss)) (common F p q xs ss))
      go true true t = (Each-common (λ y. x ≢ y) p q xs ss d.0, t)
      go true false t = t
      go false c t = t

  -- at the common points the values are equal
  meet_common : (p q : List A) (xs : List A) (ss : List (Option A)) →
      Each (λ x. value F p x ≡ value F q x) (common F p q xs ss)
  unfolding common
  meet_common p q [] ss = tt
  meet_common p q (x ∷ xs) [] = tt
  meet_common p q (x ∷ xs) (s ∷ ss) = go (is_seen F (value F p x) s) (is_seen F (value F q x) s)
      (seen_same (value F p x) (value F q x) s) (meet_common p q xs ss)
    where
      go : (b c : Bool) → (b ≡ true → c ≡ true → value F p x ≡ value F q x) →
          Each (λ x. value F p x ≡ value F q x) (common F p q xs ss) →
          Each (λ x. value F p x ≡ value F q x)
          (cond b (cond c (x ∷ common F p q xs ss) (common F p q xs ss)) (common F p q xs ss))
      go true true e t = (e refl refl, t)
      go true false e t = t
      go false c e t = t

  -- two polynomials of at most k coefficients that agree often enough are one
  pub unique : (p q : List A) (xs : List A) (ss : List (Option A)) (k : ℕ) → Apart xs → length p ≤ k →
      length q ≤ k → present ss + k ≤ agree F p xs ss + agree F q xs ss → Each (λ a. a ≡ F.zero) (plus F p q)
  unique p q xs ss k d hp hq enough = plus_zero F laws (common F p q xs ss) p q (Apart-common p q xs ss d)
      (meet_common p q xs ss) (omega (arith, count_common p q xs ss)) (omega (arith, count_common p q xs ss))

module _ {A : Type 0} (F : FieldOf A) where
  -- polynomials of one value everywhere agree at the same points
  pub agree_same : (p q xs : List A) (ss : List (Option A)) → ((x : A) → value F p x ≡ value F q x) →
      agree F p xs ss ≡ agree F q xs ss
  unfolding agree
  agree_same p q [] ss h = refl
  agree_same p q (x ∷ xs) [] h = refl
  agree_same p q (x ∷ xs) (s ∷ ss) h = cc (h x, agree_same p q xs ss h)
