-- Division with remainder.
use Rattle.algebra_laws.proofs.Words.{◌≡◌, ◌≤◌, ℕ, zero, suc, sym, ◌∙◌, ap, refl, arith, List, [], ◌∷◌, length, take, get_or, length-take, FieldOf, IsField, value, plus, scale, remainder, quotient}
use Rattle.algebra_laws.proofs.Ring.{zero_add}
use Rattle.algebra_laws.proofs.Solve.{v, ◌⊞◌, ◌⊡◌, solve}
use Rattle.algebra_laws.proofs.Values.{value-plus, value-scale}
use Rattle.algebra_laws.proofs.Roots.{length-plus}
use Rattle.algebra_laws.proofs.Interpolate.{length-scale}

module _ {A : Type 0} (F : FieldOf A) (laws : IsField F) where
  open F use {zero as 𝟘, one as 𝟙, add as ◌⊕◌, mul as ◌⊗◌}

  infixl 60 ◌⊕◌
  infixl 70 ◌⊗◌
  -- a last coefficient that is zero may go
  value-take : (p : List A) (m : ℕ) (x : A) → length p ≤ suc m → get_or p m 𝟘 ≡ 𝟘 →
      value F (take m p) x ≡ value F p x
  unfolding value
  value-take [] zero x h e = refl
  value-take [] (suc m) x h e = refl
  value-take (a ∷ []) zero x h e = cc (laws.ring.mul_zero x, laws.ring.add_zero a, e)
  value-take (a ∷ b ∷ p) zero x h e = absurd (omega arith)
  value-take (a ∷ p) (suc m) x h e = ap (λ t. a ⊕ (x ⊗ t)) (value-take p m x (omega arith) e)

  -- a coefficient of a sum
  pub get_or-plus : (p q : List A) (k : ℕ) → get_or (plus F p q) k 𝟘 ≡ get_or p k 𝟘 ⊕ get_or q k 𝟘
  unfolding plus
  get_or-plus [] q k = sym (zero_add laws.ring (get_or q k 𝟘))
  get_or-plus (a ∷ p) [] k = sym (laws.ring.add_zero (get_or (a ∷ p) k 𝟘))
  get_or-plus (a ∷ p) (b ∷ q) zero = refl
  get_or-plus (a ∷ p) (b ∷ q) (suc k) = get_or-plus p q k

  -- a coefficient of a multiple
  pub get_or-scale : (c : A) (p : List A) (k : ℕ) → get_or (scale F c p) k 𝟘 ≡ c ⊗ get_or p k 𝟘
  unfolding scale
  get_or-scale c [] k = sym (laws.ring.mul_zero c)
  get_or-scale c (a ∷ p) zero = refl
  get_or-scale c (a ∷ p) (suc k) = get_or-scale c p k

  -- the remainder is shorter than the divisor
  pub length-remainder : (d : List A) (m : ℕ) (w : A) (p : List A) → length (remainder F d m w p) ≤ m
  unfolding remainder
  length-remainder d m w [] = omega arith
  length-remainder d m w (a ∷ p) =
      let c : A = get_or (a ∷ remainder F d m w p) m 𝟘 ⊗ w in
      omega (arith, length-take m (plus F (a ∷ remainder F d m w p) (scale F c d)))

  -- the dividend is the quotient times the divisor, plus the remainder
  pub value-divided : (d : List A) (m : ℕ) (w : A) → length d ≡ suc m → w ⊗ get_or d m 𝟘 ≡ 𝟙 →
      (p : List A) (x : A) →
      value F p x ≡ (value F (quotient F d m w p) x ⊗ value F d x) ⊕ value F (remainder F d m w p) x
  unfolding remainder quotient value
  value-divided d m w fits lead [] x =
      cc (laws.ring.mul_comm 𝟘 (value F d x), laws.ring.mul_zero (value F d x), laws.ring.add_zero 𝟘)
  value-divided d m w fits lead (a ∷ p) x = ap (λ t. a ⊕ (x ⊗ t)) (value-divided d m w fits lead p x) ∙
      solve laws.ring (a ∷ x ∷ Q ∷ D ∷ R ∷ c ∷ [])
      (v 0 ⊞ (v 1 ⊡ ((v 2 ⊡ v 3) ⊞ v 4)))
      (((v 5 ⊞ (v 1 ⊡ v 2)) ⊡ v 3) ⊞ ((v 0 ⊞ (v 1 ⊡ v 4)) ⊞ (v 5 ⊡ v 3))) refl ∙
      ap (λ t. ((c ⊕ (x ⊗ Q)) ⊗ D) ⊕ t) (sym rest)
    where
      r : List A
      r = a ∷ remainder F d m w p

      c : A
      c = get_or r m 𝟘 ⊗ w

      Q : A
      Q = value F (quotient F d m w p) x

      R : A
      R = value F (remainder F d m w p) x

      D : A
      D = value F d x

      top : get_or (plus F r (scale F c d)) m 𝟘 ≡ 𝟘
      top = cc (
        get_or-plus r (scale F c d) m,
        get_or-scale c d m,
        laws.ring.mul_assoc (get_or r m 𝟘) w (get_or d m 𝟘),
        lead,
        laws.ring.mul_one (get_or r m 𝟘),
        laws.ring.add_self (get_or r m 𝟘),
      )

      rest : value F (take m (plus F r (scale F c d))) x ≡ (a ⊕ (x ⊗ R)) ⊕ (c ⊗ D)
      rest = value-take (plus F r (scale F c d)) m x (omega (
        arith,
        length-plus F laws r (scale F c d),
        length-scale F laws c d,
        length-remainder d m w p,
      )) top ∙
          value-plus F laws r (scale F c d) x ∙ ap (λ t. (a ⊕ (x ⊗ R)) ⊕ t) (value-scale F laws c d x)
