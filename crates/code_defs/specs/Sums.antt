-- Sums of products.
use Rattle.std.specs.Prelude.{ℕ, List, [], ◌∷◌}
use Rattle.hail_field.specs.Nim.{nim_add, nim_mul}

-- the sum of each coefficient times the symbol at its place
unfoldable pub dot : List ℕ → List ℕ → ℕ
dot [] symbols = 0
dot (c ∷ coefficients) [] = 0
dot (c ∷ coefficients) (s ∷ symbols) = nim_add (nim_mul c s) (dot coefficients symbols)
