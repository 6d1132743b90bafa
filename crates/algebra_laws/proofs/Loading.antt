-- Steps of the loop that makes the product of all x + point and the interpolating polynomial.
use Rattle.algebra_laws.proofs.Words.{◌≡◌, suc, ap, refl, arith, List, [], ◌∷◌, ◌++◌, length, FieldOf, IsField, value, plus, scale, times, root_times, vanish, interpolate}
use Rattle.algebra_laws.proofs.Ring.{zero_add}
use Rattle.algebra_laws.proofs.Interpolate.{length-vanish, length-scale, length-interpolate}

module _ {A : Type 0} (F : FieldOf A) (laws : IsField F) where
  -- x + r times p, as a sum
  root_times-plus : (r c : A) (p : List A) → root_times F r c p ≡ plus F (scale F r p) (c ∷ p)
  unfolding root_times plus scale
  root_times-plus r c [] = refl
  root_times-plus r c (a ∷ p) = ap (λ t. F.add (F.mul r a) c ∷ t) (root_times-plus r a p)

  -- 1 times a polynomial
  scale-one : (p : List A) → scale F F.one p ≡ p
  unfolding scale
  scale-one [] = refl
  scale-one (a ∷ p) = cc (laws.ring.mul_comm F.one a, laws.ring.mul_one a, scale-one p)

  -- zero added
  plus-zeros : (a : A) (p : List A) → plus F (a ∷ p) (F.zero ∷ []) ≡ a ∷ p
  unfolding plus
  plus-zeros a [] = cc (laws.ring.add_zero a)
  plus-zeros a (b ∷ p) = cc (laws.ring.add_zero a)

  -- x + r times p, as a product
  root_times-times : (r a : A) (p : List A) → root_times F r F.zero (a ∷ p) ≡ times F (r ∷ F.one ∷ []) (a ∷ p)
  unfolding times
  root_times-times r a p = cc (root_times-plus r F.zero (a ∷ p), scale-one (a ∷ p), plus-zeros a p)

  -- one more point
  pub vanish_step : (r : A) (rs : List A) → root_times F r F.zero (vanish F rs) ≡ vanish F (r ∷ rs)
  unfolding vanish
  vanish_step r rs = go (vanish F rs) (length-vanish F laws rs)
    where
      go : (p : List A) → length p ≡ suc (length rs) → root_times F r F.zero p ≡ times F (r ∷ F.one ∷ []) p
      go [] h = absurd (omega arith)
      go (a ∷ p) h = root_times-times r a p

  -- a zero at the end of a summand
  plus-pad : (p q : List A) → length q ≡ suc (length p) → plus F (p ++ F.zero ∷ []) q ≡ plus F p q
  unfolding plus
  plus-pad [] [] h = absurd (omega arith)
  plus-pad [] (b ∷ []) h = cc (zero_add laws.ring b)
  plus-pad [] (b ∷ c ∷ q) h = absurd (omega arith)
  plus-pad (a ∷ p) [] h = absurd (omega arith)
  plus-pad (a ∷ p) (b ∷ q) h = ap (λ t. F.add a b ∷ t) (plus-pad p q (omega arith))

  -- one more value
  pub interpolate_step : (x y : A) (xs ys : List A) → length xs ≡ length ys →
      plus F (interpolate F xs ys ++ F.zero ∷ [])
      (scale F (F.mul (F.add y (value F (interpolate F xs ys) x)) (F.inv (value F (vanish F xs) x)))
      (vanish F xs)) ≡
      interpolate F (x ∷ xs) (y ∷ ys)
  unfolding interpolate
  interpolate_step x y xs ys e =
      let c : A = F.mul (F.add y (value F (interpolate F xs ys) x)) (F.inv (value F (vanish F xs) x)) in
      plus-pad (interpolate F xs ys) (scale F c (vanish F xs))
      (omega (
        arith,
        length-scale F laws c (vanish F xs),
        length-vanish F laws xs,
        length-interpolate F laws xs ys e,
      ))
