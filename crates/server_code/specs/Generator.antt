-- The rows of coefficients behind the kept places, one after the other.
use Rattle.std.specs.Prelude.{◌≡◌, ◌<◌, ◌+◌, ◌*◌, ◌-◌, ℕ, List, length, take, drop, map}
use Rattle.code_defs.specs.Profiles.{Profile}
use Rattle.code_defs.specs.Points.{upto}
use Rattle.code_defs.specs.Sums.{dot}
use Rattle.code_defs.specs.ServerCode.{IsGeneratorRow}

-- row r of rows of keep coefficients
abbrev pub row_at : ℕ → List ℕ → ℕ → List ℕ
row_at keep rows r = take keep (drop (r * keep) rows)

-- the rows are those of the places from keep on
pub record IsGenerator (profile : Profile) (rows : List ℕ) : Type 0 where
  pub full : length rows ≡ (profile.size - profile.keep) * profile.keep
  pub each : (r : ℕ) → profile.keep + r < profile.size
      → IsGeneratorRow profile (profile.keep + r) (row_at profile.keep rows r)

-- the sums of the kept symbols by the first rows
abbrev pub sums : List ℕ → List ℕ → ℕ → List ℕ
sums rows kept count = map (λ r. dot (row_at (length kept) rows r) kept) (upto count)
