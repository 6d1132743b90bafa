-- What the keys of an object stand for.
use Rattle.std.specs.Prelude.{◌≡◌, ◌≤◌, ℕ, ◌+◌, ◌-◌, ◌*◌, ◌/◌, ◌%◌, ◌<◌, List, [], length, map, slice_index, slice_index_or}
use Rattle.code_defs.specs.Points.{upto}
use Rattle.code_defs.specs.Polynomials.{value, interpolate}
use Rattle.code_defs.specs.Sums.{dot}
use Rattle.column_defs.specs.Keys.{file_key, point_of}

-- the first points are those of the providers of an object
abbrev pub ArePoints : ℕ → ℕ → List ℕ → ℕ → List ℕ → Type 0
ArePoints n l master id points = (j : ℕ) → j < n → slice_index points j ≡ point_of l master id j

-- the first keys are those of the masks of its providers
abbrev pub AreMaskKeys : ℕ → List ℕ → ℕ → List (List ℕ) → Type 0
AreMaskKeys n master id keys = (j : ℕ) → j < n → slice_index_or keys j [] ≡ file_key master 77 id j

-- the first l coefficients give the value at x of the polynomial through l symbols as a sum over the symbols
pub record AreWeights (l x : ℕ) (weights : List ℕ) : Type 0 where
  pub enough : l ≤ length weights
  pub gives : (symbols : List ℕ) → length symbols ≡ l
      → value (interpolate (upto l) symbols) x ≡ dot weights symbols

-- each secondary point, of those from l on, has its weights
abbrev pub HasWeights : ℕ → ℕ → List ℕ → List (List ℕ) → Type 0
HasWeights n l points weights =
    (j : ℕ) → l ≤ j → j < n → AreWeights l (slice_index points j) (slice_index_or weights j [])

-- the weights that have tables, one secondary provider after the other: those of its primary ones but the
-- first
abbrev pub weight_at : ℕ → List (List ℕ) → ℕ → ℕ
weight_at l weights place =
    slice_index (slice_index_or weights (l + place / (l - 1)) []) (1 + place % (l - 1))

-- they are all weights that have tables
abbrev pub AreTabled : ℕ → ℕ → List (List ℕ) → List ℕ → Type 0
AreTabled n l weights tabled = tabled ≡ map (weight_at l weights) (upto ((n - l) * (l - 1)))
