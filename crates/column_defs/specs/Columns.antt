-- What each provider is to hold of a file, and which providers are wrong for it. Rows are codewords of a
-- dispersal code across the providers, columns are codewords of a server code within each (Bowers, Juels
-- and Oprea, HAIL, 2009).
--
--   primary_row o symbols place          == the l symbols of the primary providers at a place of a stripe
--                                           with these symbols
--   row_polynomial o symbols place       == the polynomial of a row: of degree below l, it takes the primary
--                                           symbols at the points 0 to l - 1
--   column_of_symbols o symbols j stripe == the size symbols that provider j is to hold of a stripe with
--                                           these symbols
--   columns o bytes j stripe             == the same, of a stripe of a file of these bytes
--   is_wrong_block o bytes j stripe seen == a block is absent, is not size long, or differs from the
--                                           provider's own at more than fix places
--   is_wrong o bytes j held              == so is one of the blocks that provider j holds, by stripe; never
--                                           so for a file of no stripes
use Rattle.std.specs.Prelude.{ℕ, ◌==◌, ◌||◌, Bool, true, List, length, map, not, nat_lt, slice_index, Option, None, Some, if◌then◌else◌}
use Rattle.std.specs.List.{list_any}
use Rattle.hail_field.specs.Nim.{nim_add}
use Rattle.code_defs.specs.Polynomials.{value, interpolate}
use Rattle.code_defs.specs.Points.{upto}
use Rattle.code_defs.specs.ServerCode.{codeword, differences}
use Rattle.column_defs.specs.Keys.{mask}
use Rattle.column_defs.specs.Objects.{Object, stripes, row_number, symbols_in, kept_by, is_primary, point}

-- the primary symbols at a place of a stripe, whose rows at the places from keep on are the server code's
abbrev pub primary_row : Object → List ℕ → ℕ → List ℕ
primary_row o symbols place =
    map (λ j. slice_index (codeword o.profile (kept_by o symbols j)) place) (upto o.shape.l)

-- the polynomial of a row, of degree below l, which takes the primary symbols at the points 0 to l - 1
abbrev pub row_polynomial : Object → List ℕ → ℕ → List ℕ
row_polynomial o symbols place = interpolate (upto o.shape.l) (primary_row o symbols place)

-- the symbol of a secondary provider in a row: the value of the row's polynomial at its point, plus the
-- row's mask
abbrev pub secondary_symbol : Object → List ℕ → ℕ → ℕ → ℕ → ℕ
secondary_symbol o symbols j stripe place =
    nim_add (value (row_polynomial o symbols place) (point o j))
    (mask o.master o.id j (row_number o stripe place))

-- a provider's block of a stripe with these symbols: a primary one's is the server codeword of the symbols
-- that it keeps
unfoldable pub column_of_symbols : Object → List ℕ → ℕ → ℕ → List ℕ
column_of_symbols o symbols j stripe =
    if is_primary o j
    then codeword o.profile (kept_by o symbols j)
    else map (secondary_symbol o symbols j stripe) (upto o.profile.size)

-- a provider's block of a stripe of a file
abbrev pub columns : Object → List ℕ → ℕ → ℕ → List ℕ
columns o bytes j stripe = column_of_symbols o (symbols_in o bytes stripe) j stripe

-- a block is absent, is not of the size, or differs from the provider's own at more places than are corrected
abbrev pub is_wrong_block : Object → List ℕ → ℕ → ℕ → Option (List ℕ) → Bool
is_wrong_block o bytes j stripe None = true
is_wrong_block o bytes j stripe (Some block) =
    not (length block == o.profile.size)
    || nat_lt o.profile.fix (differences block (columns o bytes j stripe))

-- a provider is wrong for a file, by its blocks of each stripe
unfoldable pub is_wrong : Object → List ℕ → ℕ → (ℕ → Option (List ℕ)) → Bool
is_wrong o bytes j held =
    list_any (λ stripe. is_wrong_block o bytes j stripe (held stripe)) (upto (stripes o (length bytes)))
