-- The syndromes of a word: sums that are all 0 exactly where the word is the values of a polynomial of low
-- degree.
--
--   syndrome points values k     == the sum over the places of multiplier times value times the point to the
--                                   power k
--   syndromes_of points values m == the first m of these
--   AreValues points values keep == the values are those of a polynomial of degree below keep
use Rattle.std.specs.Prelude.{◌≡◌, ◌≤◌, ℕ, List, length, map}
use Rattle.hail_field.specs.Nim.{nim_mul, nim_pow}
use Rattle.code_defs.specs.Points.{upto, values_at, multiplier}
use Rattle.code_defs.specs.Sums.{dot}

-- the sum over the places of multiplier times value times the point to the power k
abbrev pub syndrome : List ℕ → List ℕ → ℕ → ℕ
syndrome points values k = dot (map (λ x. nim_mul (multiplier x points) (nim_pow x k)) points) values

-- the syndromes 0 to m - 1
abbrev pub syndromes_of : List ℕ → List ℕ → ℕ → List ℕ
syndromes_of points values m = map (syndrome points values) (upto m)

-- the values are those of a polynomial of degree below keep
pub record AreValues (points values : List ℕ) (keep : ℕ) : Type 0 where
  pub polynomial : List ℕ
  pub degree : length polynomial ≤ keep
  pub values_are : values ≡ values_at points polynomial
