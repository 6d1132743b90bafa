-- What the rows of Euclid's algorithm on the product of all x + point and the interpolating polynomial are.
use Rattle.std.proofs.Common.{◌≡◌, ◌≤◌, ◌+◌, ℕ, List, [], ◌∷◌, length}
use Rattle.algebra_laws.specs.Lists.{Each}
use Rattle.algebra_laws.specs.Field.{FieldOf}
use Rattle.algebra_laws.specs.Poly.{value, vanish, interpolate}

-- at each point r is f times the value given there
abbrev pub Solves : {A : Type 0} → FieldOf A → List A → List A → List A → List A → Type 0
Solves F r f [] ys = Unit {0}
Solves F r f (x ∷ xs) [] = ⊥
Solves F r f (x ∷ xs) (y ∷ ys) = (value F r x ≡ F.mul (value F f x) y) × Solves F r f xs ys

-- r has degree below `below`, f has degree at most N - below and is not 0, and r is f times the
-- interpolating polynomial, plus a multiple of the product of all x + point
pub record IsKeyEquation {A : Type 0} (F : FieldOf A) (points values : List A) (below : ℕ)
    (r f : List A) : Type 0 where
  pub rest_degree : length r ≤ below
  pub factor_degree : length f + below ≤ length points + 1
  pub factor_not_zero : Each (λ a. a ≡ F.zero) f → ⊥
  pub at_points : Solves F r f points values
  pub multiple : List A
  pub equation : (x : A) →
      value F r x ≡ F.add (F.mul (value F f x) (value F (interpolate F points values) x))
      (F.mul (value F multiple x) (value F (vanish F points) x))
