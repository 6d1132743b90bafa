-- The registers of a Work.
use Rattle.std.specs.Prelude.{◌≡◌, ◌≤◌, ◌<◌, ◌+◌, ℕ, List, [], ◌∷◌, length, take}
use Rattle.code_defs.specs.Polynomials.{trim}
use Rattle.hail_poly.specs.RowState.{RowState}

-- the three polynomials, and how many points there is room for
pub record Registers : Type 0 where
  pub size : ℕ
  pub whole : List ℕ
  pub rest : List ℕ
  pub factor : List ℕ

-- the registers have one size
pub record IsWork (size : ℕ) (whole : List ℕ) (whole_len : ℕ) (row spare : RowState) : Type 0 where
  pub small : size ≤ 128
  pub whole_room : length whole ≡ size + 1
  pub whole_fits : whole_len ≤ size + 1
  pub whole_trimmed : take whole_len whole ≡ trim (take whole_len whole)
  pub row_room : row.room ≡ size + 1
  pub spare_room : spare.room ≡ size + 1

-- as load and load_key leave them: the rest is shorter than the whole, and the factor is 1
pub record IsLoaded (work : Registers) : Type 0 where
  pub shorter : length work.rest < length work.whole
  pub one : work.factor ≡ 1 ∷ []
