-- Rows and places of the symbols of a stripe.
use Rattle.std.specs.Prelude.{ℕ, ◌+◌, ◌*◌, List, map, slice_index}
use Rattle.code_defs.specs.Polynomials.{value}
use Rattle.code_defs.specs.Points.{upto}
use Rattle.column_defs.specs.Objects.{Object, point}
use Rattle.column_defs.specs.Columns.{row_polynomial}

-- the symbols at a place of l blocks of keep symbols, which lie one after the other
abbrev pub symbols_at : ℕ → ℕ → ℕ → List ℕ → List ℕ
symbols_at l keep place symbols = map (λ j. slice_index symbols (j * keep + place)) (upto l)

-- the value of a row's polynomial at a provider's point
abbrev pub row_value : Object → List ℕ → ℕ → ℕ → ℕ
row_value o symbols j place = value (row_polynomial o symbols place) (point o j)
