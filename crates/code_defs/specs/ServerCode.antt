-- The server code (Bowers, Juels and Oprea, HAIL, 2009): a Reed-Solomon code at the points 0 to size - 1,
-- whose first keep symbols are the kept ones.
--
--   codeword profile kept            == the block of size symbols that begins with the kept ones
--   IsCodeword profile block         == the block is the values of a polynomial of degree below keep
--   IsNear profile block p           == p has degree below keep, and is the block's symbol at all but fix
--                                       places: its values are a codeword within Hamming distance fix of the
--                                       block
--   Opens profile block opened       == opened is the values of a polynomial that is near the block
--                                       (bounded-distance decoding)
--   OpensToNone profile block        == no polynomial is near the block, as where it is not of size symbols
--   differences xs ys                == at how many places the two differ, as far as both go: the Hamming
--                                       distance of two blocks
--   IsGeneratorRow profile place row == the symbol at the place is the sum of coefficient times kept symbol
use Rattle.std.specs.Prelude.{◌≡◌, ◌≤◌, ℕ, suc, List, ◌∷◌, length, slice_index, ◌==◌, if◌then◌else◌}
use Rattle.hail_field.specs.Nim.{nim}
use Rattle.algebra_laws.specs.Poly.{Decodes}
use Rattle.code_defs.specs.Polynomials.{interpolate}
use Rattle.code_defs.specs.Points.{upto, values_at}
use Rattle.code_defs.specs.Profiles.{Profile}
use Rattle.code_defs.specs.Sums.{dot}

-- the codeword: the values at all points of the polynomial of degree below keep that takes the kept symbols
-- at the first keep points
abbrev pub codeword : Profile → List ℕ → List ℕ
codeword profile kept = values_at (upto profile.size) (interpolate (upto profile.keep) kept)

-- a block is the values at all points of a polynomial of degree below keep
pub record IsCodeword (profile : Profile) (block : List ℕ) : Type 0 where
  pub polynomial : List ℕ
  pub degree : length polynomial ≤ profile.keep
  pub values : block ≡ values_at (upto profile.size) polynomial

-- a block of size symbols, and a polynomial of degree below keep that agrees with it at all but fix places
pub record IsNear (profile : Profile) (block p : List ℕ) : Type 0 where
  pub whole : length block ≡ profile.size
  pub decodes : Decodes nim (upto profile.size) block profile.keep profile.fix p

-- a block opens to the codeword of the polynomial that is near it
pub record Opens (profile : Profile) (block opened : List ℕ) : Type 0 where
  pub polynomial : List ℕ
  pub near : IsNear profile block polynomial
  pub opened_is : opened ≡ values_at (upto profile.size) polynomial

-- a block opens to nothing: no polynomial is near it
abbrev pub OpensToNone : Profile → List ℕ → Type 0
OpensToNone profile block = (p : List ℕ) → IsNear profile block p → ⊥

-- at how many places two blocks differ
abbrev pub differences : List ℕ → List ℕ → ℕ
differences (x ∷ xs) (y ∷ ys) = if x == y then differences xs ys else suc (differences xs ys)
differences xs ys = 0

-- the coefficients of the kept symbols in the codeword's symbol at a place
pub record IsGeneratorRow (profile : Profile) (place : ℕ) (row : List ℕ) : Type 0 where
  pub full : length row ≡ profile.keep
  pub gives : (kept : List ℕ) → length kept ≡ profile.keep
      → slice_index (codeword profile kept) place ≡ dot row kept
