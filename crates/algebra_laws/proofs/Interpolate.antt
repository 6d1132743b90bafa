-- The interpolating polynomial takes the values at the points.
use Rattle.algebra_laws.proofs.Words.{◌≡◌, ◌≢◌, ◌≤◌, ◌+◌, ℕ, suc, sym, ◌∙◌, refl, arith, List, [], ◌∷◌, length, Each, FieldOf, IsField, Apart, Takes, value, plus, scale, times, vanish, interpolate}
use Rattle.algebra_laws.proofs.Ring.{add_same, sum_zero}
use Rattle.algebra_laws.proofs.Solve.{v, o, i, ◌⊞◌, ◌⊡◌, solve}
use Rattle.algebra_laws.proofs.Values.{value-plus, value-scale, value-times}
use Rattle.algebra_laws.proofs.Roots.{length-plus}
use Rattle.algebra_laws.proofs.Inverse.{factor_zero}

module _ {A : Type 0} (F : FieldOf A) (laws : IsField F) where
  open F use {zero as 𝟘, one as 𝟙, add as ◌⊕◌, mul as ◌⊗◌}

  infixl 60 ◌⊕◌
  infixl 70 ◌⊗◌
  -- the value of the product over one point more
  pub value-vanish : (r : A) (rs : List A) (x : A) →
      value F (vanish F (r ∷ rs)) x ≡ (r ⊕ x) ⊗ value F (vanish F rs) x
  unfolding vanish value
  value-vanish r rs x = value-times F laws (r ∷ 𝟙 ∷ []) (vanish F rs) x ∙
      solve laws.ring (r ∷ x ∷ value F (vanish F rs) x ∷ []) ((v 0 ⊞ (v 1 ⊡ (i ⊞ (v 1 ⊡ o)))) ⊡ v 2)
      ((v 0 ⊞ v 1) ⊡ v 2) refl

  -- it is zero at each point
  pub vanish_roots : (rs : List A) → Each (λ x. value F (vanish F rs) x ≡ 𝟘) rs
  vanish_roots [] = tt
  vanish_roots (r ∷ rs) = (
    cc (
      value-vanish r rs r,
      laws.ring.add_self r,
      laws.ring.mul_comm 𝟘 (value F (vanish F rs) r),
      laws.ring.mul_zero (value F (vanish F rs) r),
    ),
    go rs (vanish_roots rs),
  )
    where
      go : (xs : List A) → Each (λ x. value F (vanish F rs) x ≡ 𝟘) xs →
          Each (λ x. value F (vanish F (r ∷ rs)) x ≡ 𝟘) xs
      go [] h = tt
      go (x ∷ xs) h = (cc (value-vanish r rs x, h.0, laws.ring.mul_zero (r ⊕ x)), go xs h.1)

  -- where two elements differ, one is not zero
  one_not_zero : (x y : A) → x ≢ y → 𝟙 ≢ 𝟘
  one_not_zero x y h e =
      h (cc (laws.ring.mul_one x, laws.ring.mul_one y, laws.ring.mul_zero x, laws.ring.mul_zero y, e))

  -- and nowhere else
  pub vanish_else : (rs : List A) (x : A) → 𝟙 ≢ 𝟘 → Each (λ y. x ≢ y) rs → value F (vanish F rs) x ≢ 𝟘
  unfolding vanish value
  vanish_else [] x one h e = one (cc (e, laws.ring.mul_zero x, laws.ring.add_zero 𝟙))
  vanish_else (r ∷ rs) x one h e =
      vanish_else rs x one h.1 (factor_zero F laws (r ⊕ x) (value F (vanish F rs) x)
      (sym (value-vanish r rs x) ∙ e) (λ same. h.0 (sym (sum_zero laws.ring r x same))))

  -- a multiple has as many coefficients
  pub length-scale : (c : A) (p : List A) → length (scale F c p) ≡ length p
  unfolding scale
  length-scale c [] = refl
  length-scale c (a ∷ p) = let h = length-scale c p in omega arith

  -- how many coefficients a product has
  pub length-times : (p q : List A) (n : ℕ) → length q ≤ suc n → length (times F p q) ≤ length p + n
  unfolding times
  length-times [] q n k = omega arith
  length-times (a ∷ p) q n k =
      let h : length (times F p q) ≤ length p + n = length-times p q n k in
      omega (arith, length-plus F laws (scale F a q) (𝟘 ∷ times F p q), length-scale a q)

  -- the product over n points has n + 1 coefficients
  pub length-vanish : (rs : List A) → length (vanish F rs) ≡ suc (length rs)
  unfolding vanish times
  length-vanish [] = refl
  length-vanish (r ∷ rs) =
      let h : length (vanish F rs) ≡ suc (length rs) = length-vanish rs in
      omega (
        arith,
        length-plus F laws (scale F r (vanish F rs)) (𝟘 ∷ plus F (scale F 𝟙 (vanish F rs)) (𝟘 ∷ [])),
        length-plus F laws (scale F 𝟙 (vanish F rs)) (𝟘 ∷ []),
        length-scale r (vanish F rs),
        length-scale 𝟙 (vanish F rs),
      )

  -- there are as many coefficients as points
  pub length-interpolate : (xs ys : List A) → length xs ≡ length ys → length (interpolate F xs ys) ≡ length xs
  unfolding interpolate
  length-interpolate [] ys e = refl
  length-interpolate (x ∷ xs) [] e = absurd (omega arith)
  length-interpolate (x ∷ xs) (y ∷ ys) e =
      let h : length (interpolate F xs ys) ≡ length xs = length-interpolate xs ys (omega arith) in
      let c : A = (y ⊕ value F (interpolate F xs ys) x) ⊗ F.inv (value F (vanish F xs) x) in
      omega (
        arith,
        length-plus F laws (interpolate F xs ys) (scale F c (vanish F xs)),
        length-scale c (vanish F xs),
        length-vanish xs,
      )

  -- it takes the values
  pub interpolate_takes : (xs ys : List A) → 𝟙 ≢ 𝟘 → length xs ≡ length ys → Apart xs →
      Takes F (interpolate F xs ys) xs ys
  unfolding interpolate
  interpolate_takes [] ys one e d = tt
  interpolate_takes (x ∷ xs) [] one e d = absurd (omega arith)
  interpolate_takes (x ∷ xs) (y ∷ ys) one e d =
      (at_point, keep xs ys (vanish_roots xs) (interpolate_takes xs ys one (omega arith) d.1))
    where
      P : List A
      P = interpolate F xs ys

      V : A
      V = value F (vanish F xs) x

      c : A
      c = (y ⊕ value F P x) ⊗ F.inv V

      at_any : (z : A) → value F (plus F P (scale F c (vanish F xs))) z
          ≡ value F P z ⊕ (c ⊗ value F (vanish F xs) z)
      at_any z = cc (value-plus F laws P (scale F c (vanish F xs)) z, value-scale F laws c (vanish F xs) z)

      at_point : value F (plus F P (scale F c (vanish F xs))) x ≡ y
      at_point = cc (
        at_any x,
        laws.ring.mul_assoc (y ⊕ value F P x) (F.inv V) V,
        laws.ring.mul_comm (F.inv V) V,
        laws.mul_inv V (vanish_else xs x one d.0),
        laws.ring.mul_one (y ⊕ value F P x),
        laws.ring.add_comm y (value F P x),
        add_same laws.ring (value F P x) y,
      )

      keep : (us ws : List A) → Each (λ u. value F (vanish F xs) u ≡ 𝟘) us → Takes F P us ws →
          Takes F (plus F P (scale F c (vanish F xs))) us ws
      keep [] ws z t = tt
      keep (u ∷ us) [] z t = t
      keep (u ∷ us) (w ∷ ws) z t = (
        cc (at_any u, z.0, laws.ring.mul_zero c, laws.ring.add_zero (value F P u), t.0),
        keep us ws z.1 t.1,
      )
