-- What is zero at points is a multiple of the product of all x + point.
use Rattle.algebra_laws.proofs.Words.{◌≡◌, sym, ◌∙◌, ap, refl, List, [], ◌∷◌, Each, FieldOf, IsField, Apart, value, plus, times, vanish, interpolate, Takes, Solves}
use Rattle.algebra_laws.proofs.Ring.{zero_mul}
use Rattle.algebra_laws.proofs.Solve.{v, o, i, ◌⊞◌, ◌⊡◌, solve}
use Rattle.algebra_laws.proofs.Roots.{quotient_at, value-quotient_at, roots_below}
use Rattle.algebra_laws.proofs.Values.{value-plus, value-times}
use Rattle.algebra_laws.proofs.Interpolate.{value-vanish}

module _ {A : Type 0} (F : FieldOf A) (laws : IsField F) where
  open F use {zero as 𝟘, one as 𝟙, add as ◌⊕◌, mul as ◌⊗◌}

  infixl 60 ◌⊕◌
  infixl 70 ◌⊗◌
  -- a polynomial that is zero at points that are apart, as a multiple
  multiple_of_vanish : (points p : List A) → Apart points → Each (λ x. value F p x ≡ 𝟘) points →
      (m : List A) × ((x : A) → value F p x ≡ value F m x ⊗ value F (vanish F points) x)
  unfolding value vanish
  multiple_of_vanish [] p d z =
      (p, λ x. solve laws.ring (value F p x ∷ x ∷ []) (v 0) (v 0 ⊡ (i ⊞ (v 1 ⊡ o))) refl)
  multiple_of_vanish (r ∷ rs) [] d z = ([], λ x. sym (zero_mul laws.ring (value F (vanish F (r ∷ rs)) x)))
  multiple_of_vanish (r ∷ rs) (a ∷ p) d z =
      let below = multiple_of_vanish rs (quotient_at F r p) d.1 (roots_below F laws a p r rs d.0 z.0 z.1) in (
        below.0,
        λ x. value-quotient_at F laws r a p x ∙ ap (λ t. t ⊕ ((x ⊕ r) ⊗ value F (quotient_at F r p) x)) z.0
            ∙ ap (λ t. 𝟘 ⊕ ((x ⊕ r) ⊗ t)) (below.1 x)
            ∙ solve laws.ring (x ∷ r ∷ value F below.0 x ∷ value F (vanish F rs) x ∷ [])
            (o ⊞ ((v 0 ⊞ v 1) ⊡ (v 2 ⊡ v 3))) (v 2 ⊡ ((v 1 ⊞ v 0) ⊡ v 3)) refl
            ∙ ap (λ t. value F below.0 x ⊗ t) (sym (value-vanish F laws r rs x)),
      )

  -- what solves the equations at the points, as a multiple more
  pub solves_as_multiple : (r f xs ys : List A) → Apart xs → Takes F (interpolate F xs ys) xs ys →
      Solves F r f xs ys →
      (m : List A) × ((x : A) →
      value F r x ≡ (value F f x ⊗ value F (interpolate F xs ys) x) ⊕
      (value F m x ⊗ value F (vanish F xs) x))
  solves_as_multiple r f xs ys d takes solves =
      let w = interpolate F xs ys in
      let m = multiple_of_vanish xs (plus F r (times F f w)) d (zero_at xs ys w takes solves) in (
        m.0,
        λ x. solve laws.ring (value F r x ∷ value F f x ∷ value F w x ∷ []) (v 0)
            ((v 1 ⊡ v 2) ⊞ (v 0 ⊞ (v 1 ⊡ v 2))) refl
            ∙ ap (λ t. (value F f x ⊗ value F w x) ⊕ t) (sym (of_sum w x) ∙ m.1 x),
      )
    where
      of_sum : (w : List A) (x : A) → value F (plus F r (times F f w)) x
          ≡ value F r x ⊕ (value F f x ⊗ value F w x)
      of_sum w x = value-plus F laws r (times F f w) x ∙ ap (λ t. value F r x ⊕ t) (value-times F laws f w x)

      zero_at : (us vs w : List A) → Takes F w us vs → Solves F r f us vs →
          Each (λ x. value F (plus F r (times F f w)) x ≡ 𝟘) us
      zero_at [] vs w t s = tt
      zero_at (u ∷ us) [] w t s = absurd t
      zero_at (u ∷ us) (y ∷ vs) w t s =
          (of_sum w u ∙ cc (s.0, t.0, laws.ring.add_self (value F r u)), zero_at us vs w t.1 s.1)
