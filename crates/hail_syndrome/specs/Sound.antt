-- The places that are not suspected: those at which a polynomial is not 0.
--
--   sound_points F f xs    == the points of xs at which f is not 0
--   sound_values F f xs ys == the values at the places of these
use Rattle.std.specs.Prelude.{cond, List, [], ◌∷◌}
use Rattle.algebra_laws.specs.Field.{FieldOf}
use Rattle.algebra_laws.specs.Poly.{value}

module _ {A : Type 0} (F : FieldOf A) where
  -- the points at which f is not 0
  unfoldable pub sound_points : List A → List A → List A
  sound_points f [] = []
  sound_points f (x ∷ xs) = cond (F.eq (value F f x) F.zero) (sound_points f xs) (x ∷ sound_points f xs)

  -- the values at these points
  unfoldable pub sound_values : List A → List A → List A → List A
  sound_values f [] ys = []
  sound_values f (x ∷ xs) [] = []
  sound_values f (x ∷ xs) (y ∷ ys) =
      cond (F.eq (value F f x) F.zero) (sound_values f xs ys) (y ∷ sound_values f xs ys)
