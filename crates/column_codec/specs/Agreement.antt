-- How many providers agree with a row.
use Rattle.std.specs.Prelude.{ℕ, Bool, List, map, if◌then◌else◌}
use Rattle.code_defs.specs.Polynomials.{value, agree, is_seen}
use Rattle.code_defs.specs.Points.{upto}
use Rattle.column_defs.specs.Objects.{Object, point}
use Rattle.column_defs.specs.Columns.{row_polynomial}
use Rattle.column_defs.specs.Opened.{SeenBlock, symbol_in}
use Rattle.column_codec.specs.OpenedBlocks.{opened_at}

-- 1 where the opened symbol of a provider is the value of the row with these primary symbols, else 0
abbrev pub agreeing_at : Object → List ℕ → ℕ → ℕ → SeenBlock → ℕ
agreeing_at o rows place j block =
    if is_seen (value (row_polynomial o rows place) (point o j)) (symbol_in place block) then 1 else 0

-- how many of the first providers agree with the row with these primary symbols at a place
abbrev pub agreed : Object → List ℕ → List Bool → List (List ℕ) → ℕ → ℕ → ℕ
agreed o rows marks blocks place n =
    agree (row_polynomial o rows place) (map (point o) (upto n))
    (map (λ j. symbol_in place (opened_at marks blocks j)) (upto n))
