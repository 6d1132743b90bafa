use Rattle.std.specs.Prelude.{◌≡◌, ◌≤◌, ℕ, List, length, take}
use Rattle.code_defs.specs.Polynomials.{trim}

-- a remainder and its cofactor, and for how many coefficients there is room
pub record RowState : Type 0 where
  pub room : ℕ
  pub rest : List ℕ
  pub factor : List ℕ

-- two buffers of one length hold a remainder and its cofactor, and behind the cofactor only zeros
pub record IsDivisionRow (rest : List ℕ) (rest_len : ℕ) (factor : List ℕ) (factor_len : ℕ) : Type 0 where
  pub same : length factor ≡ length rest
  pub rest_fits : rest_len ≤ length rest
  pub factor_fits : factor_len ≤ length factor
  pub rest_trimmed : take rest_len rest ≡ trim (take rest_len rest)
  pub factor_trimmed : take factor_len factor ≡ trim factor
