-- The lines of the command `row`.
--
--   values_line values  == the values in decimal, with one space between, and a newline
--   no_row_line         == `no row` and a newline
use Rattle.std.specs.Prelude.{ℕ, List, [], ◌∷◌, ◌++◌, map, codes}
use Rattle.std.specs.List.{join_with_byte}
use Rattle.std.specs.Fmt.{decimal}

-- the values in decimal, with one space between, and a newline
abbrev pub values_line : List ℕ → List ℕ
values_line values = join_with_byte 32 (map decimal values) ++ 10 ∷ []

-- `no row` and a newline
abbrev pub no_row_line : List ℕ
no_row_line = codes "no row" ++ 10 ∷ []
