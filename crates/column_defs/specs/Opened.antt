-- What seen blocks open to: each block to a server codeword, each row to a polynomial, and all rows to the
-- bytes of a file.
--
--   SeenBlock                          == a list of symbols, or None where none was seen
--   masked o j row block               == the symbols of rows from one on with the masks of provider j put
--                                         on, which also takes them off
--   bare o j stripe block              == a block of provider j without its masks, which a primary one has
--                                         none of
--   OpensTo o j stripe seen opened     == a seen block opens to this codeword, or to None: it is absent, not
--                                         size long, or near to no codeword
--   AllOpen o stripe j seen opened     == so do the blocks of the providers from j on, one by one
--   symbol_in place block              == the symbol at a place of a block, None where there is none
--   block_at blocks j                  == the block of provider j among those of all providers
--   AcceptsRow o opened place p        == the row at a place is accepted with p: of degree below l, it agrees
--                                         with all but b opened symbols
--   GivesSymbols o stripe seen symbols == the seen blocks of a stripe open to these symbols, in layout order:
--                                         each row at a kept place is accepted
--   LosesRow o stripe seen row         == the lowest row, by its number, at a kept place of a stripe that is
--                                         not accepted
--   OpensFile o size seen bytes        == the seen blocks, by stripe and provider, open to these bytes of a
--                                         file of that size
use Rattle.std.specs.Prelude.{◌≡◌, ℕ, ◌+◌, ◌*◌, ◌<◌, List, [], ◌∷◌, length, take, map, slice_get, Option, None, Some, option_and_then, if◌then◌else◌}
use Rattle.std.specs.List.{flat_map}
use Rattle.hail_field.specs.Nim.{nim_add}
use Rattle.code_defs.specs.Polynomials.{value}
use Rattle.code_defs.specs.Points.{upto}
use Rattle.code_defs.specs.ServerCode.{Opens, OpensToNone}
use Rattle.code_defs.specs.DispersalCode.{Accepts, AcceptsNone}
use Rattle.column_defs.specs.Keys.{mask}
use Rattle.column_defs.specs.Objects.{Object, stripes, stripe_symbols, row_number, bytes_of_symbols, is_primary, points}

-- a block as a provider gave it, if it did
abbrev pub SeenBlock : Type 0
SeenBlock = Option (List ℕ)

-- symbols of the rows from this one on, with the masks of a provider added
abbrev pub masked : Object → ℕ → ℕ → List ℕ → List ℕ
masked o j row [] = []
masked o j row (x ∷ xs) = nim_add x (mask o.master o.id j row) ∷ masked o j (row + 1) xs

-- a block of a provider without its masks
abbrev pub bare : Object → ℕ → ℕ → List ℕ → List ℕ
bare o j stripe block = if is_primary o j then block else masked o j (row_number o stripe 0) block

-- a block opens to the codeword that is near it without its masks; to nothing where there is none, as for a
-- block of another size, or it is absent
abbrev pub OpensTo : Object → ℕ → ℕ → SeenBlock → SeenBlock → Type 0
OpensTo o j stripe None opened = opened ≡ None
OpensTo o j stripe (Some block) (Some symbols) = Opens o.profile (bare o j stripe block) symbols
OpensTo o j stripe (Some block) None = OpensToNone o.profile (bare o j stripe block)

-- the blocks seen of the providers from one on open to these
abbrev pub AllOpen : Object → ℕ → ℕ → List SeenBlock → List SeenBlock → Type 0
AllOpen o stripe j [] [] = Unit {0}
AllOpen o stripe j (seen ∷ more) (opened ∷ others) =
    OpensTo o j stripe seen opened × AllOpen o stripe (j + 1) more others
AllOpen o stripe j [] (opened ∷ others) = ⊥
AllOpen o stripe j (seen ∷ more) [] = ⊥

-- the symbol at a place of a block
abbrev pub symbol_in : ℕ → SeenBlock → Option ℕ
symbol_in place block = option_and_then (λ symbols. slice_get symbols place) block

-- the block of a provider in a list of all blocks of a stripe
abbrev pub block_at : List SeenBlock → ℕ → SeenBlock
block_at blocks j = option_and_then (λ block. block) (slice_get blocks j)

-- a row is accepted with a polynomial of degree below l that agrees with the opened symbols of all but b
-- providers
abbrev pub AcceptsRow : Object → List SeenBlock → ℕ → List ℕ → Type 0
AcceptsRow o opened place p = Accepts (points o) (map (symbol_in place) opened) o.shape.l o.shape.b p

-- no polynomial is accepted for a row
abbrev pub AcceptsNoRow : Object → List SeenBlock → ℕ → Type 0
AcceptsNoRow o opened place = AcceptsNone (points o) (map (symbol_in place) opened) o.shape.l o.shape.b

-- a row is accepted with a polynomial that takes, at the points 0 to l - 1, its symbols among those of the
-- stripe
pub record AcceptsSymbols (o : Object) (opened : List SeenBlock) (place : ℕ) (symbols : List ℕ) : Type 0 where
  pub row : List ℕ
  pub accepted : AcceptsRow o opened place row
  pub values : (j : ℕ) → j < o.shape.l → slice_get symbols (j * o.profile.keep + place) ≡ Some (value row j)

-- the seen blocks of a stripe open to these symbols, in layout order
pub record GivesSymbols (o : Object) (stripe : ℕ) (seen : List SeenBlock) (symbols : List ℕ) : Type 0 where
  pub opened : List SeenBlock
  pub opens : AllOpen o stripe 0 seen opened
  pub size : length symbols ≡ stripe_symbols o
  pub accepted : (place : ℕ) → place < o.profile.keep → AcceptsSymbols o opened place symbols

-- the lowest row of a stripe that is not accepted from the seen blocks
pub record LosesRow (o : Object) (stripe : ℕ) (seen : List SeenBlock) (row : ℕ) : Type 0 where
  pub opened : List SeenBlock
  pub opens : AllOpen o stripe 0 seen opened
  pub place : ℕ
  pub kept : place < o.profile.keep
  pub number : row ≡ row_number o stripe place
  pub lost : AcceptsNoRow o opened place
  pub lowest : (before : ℕ) → before < place → (p : List ℕ) × AcceptsRow o opened before p

-- seen blocks, by stripe and then by provider, open to these bytes of a file
pub record OpensFile (o : Object) (size : ℕ) (seen : ℕ → List SeenBlock) (bytes : List ℕ) : Type 0 where
  pub symbols : ℕ → List ℕ
  pub given : (stripe : ℕ) → stripe < stripes o size → GivesSymbols o stripe (seen stripe) (symbols stripe)
  pub cut : bytes ≡ take size (flat_map (λ stripe. bytes_of_symbols (symbols stripe)) (upto (stripes o size)))
