-- When seen blocks hold a forgery against a file: the event that the authentication codes make unlikely
-- (Bowers, Juels and Oprea, HAIL, 2009).
--
--   count_of passes numbers                        == how many of the numbers pass
--   is_agreeing o opened place p j                 == the opened symbol of provider j at a place is the value
--                                                     of p at its point
--   IsForgedBy o bytes stripe place opened wrong p == p is a forgery of a row: another polynomial, accepted,
--                                                     with enough tags and wrong providers
--   IsForgery o bytes seen stripe place            == the blocks seen of all stripes hold a forgery against
--                                                     the file at a row
--   IsStripeForgery o bytes seen stripe place      == the same where those providers are wrong in this very
--                                                     stripe
use Rattle.std.specs.Prelude.{◌≢◌, ℕ, ◌+◌, ◌<◌, ◌≤◌, ◌&&◌, Bool, List, [], ◌∷◌, length, not, if◌then◌else◌}
use Rattle.code_defs.specs.Polynomials.{value, is_seen}
use Rattle.code_defs.specs.Points.{upto, values_at}
use Rattle.column_defs.specs.Objects.{Object, stripes, symbols_in, is_primary, point}
use Rattle.column_defs.specs.Columns.{primary_row, is_wrong, is_wrong_block}
use Rattle.column_defs.specs.Opened.{SeenBlock, AllOpen, AcceptsRow, symbol_in, block_at}

-- how many of the numbers pass
abbrev pub count_of : (ℕ → Bool) → List ℕ → ℕ
count_of passes [] = 0
count_of passes (j ∷ js) = (if passes j then 1 else 0) + count_of passes js

-- the opened symbol of a provider at a place is the value of the polynomial at its point
abbrev pub is_agreeing : Object → List SeenBlock → ℕ → List ℕ → ℕ → Bool
is_agreeing o opened place p j = is_seen (value p (point o j)) (symbol_in place (block_at opened j))

-- a polynomial that is forged in the opened blocks of a stripe, where some providers count as wrong
pub record IsForgedBy (o : Object) (bytes : List ℕ) (stripe place : ℕ) (opened : List SeenBlock)
    (wrong : ℕ → Bool) (p : List ℕ) : Type 0 where
  pub accepted : AcceptsRow o opened place p
  pub other : values_at (upto o.shape.l) p ≢ primary_row o (symbols_in o bytes stripe) place
  pub tagged : o.shape.b + 1 ≤ count_of (λ j. is_agreeing o opened place p j && not (is_primary o j))
      (upto o.shape.n)
  pub wrong_ones : o.shape.b + 2 ≤ count_of (λ j. is_agreeing o opened place p j && wrong j) (upto o.shape.n)

-- a row of a file at a kept place
pub record IsRow (o : Object) (bytes : List ℕ) (stripe place : ℕ) : Type 0 where
  pub stripe_in : stripe < stripes o (length bytes)
  pub place_in : place < o.profile.keep

-- seen blocks, by stripe and then by provider, hold a forgery against a file at a row
pub record IsForgery (o : Object) (bytes : List ℕ) (seen : ℕ → List SeenBlock)
    (stripe place : ℕ) : Type 0 where
  pub row_in : IsRow o bytes stripe place
  pub opened : List SeenBlock
  pub opens : AllOpen o stripe 0 (seen stripe) opened
  pub row : List ℕ
  pub forged : IsForgedBy o bytes stripe place opened (λ j. is_wrong o bytes j (λ s. block_at (seen s) j)) row

-- the same where each wrong provider's block of this very stripe is wrong
pub record IsStripeForgery (o : Object) (bytes : List ℕ) (seen : ℕ → List SeenBlock)
    (stripe place : ℕ) : Type 0 where
  pub row_in : IsRow o bytes stripe place
  pub opened : List SeenBlock
  pub opens : AllOpen o stripe 0 (seen stripe) opened
  pub row : List ℕ
  pub forged : IsForgedBy o bytes stripe place opened
      (λ j. is_wrong_block o bytes j stripe (block_at (seen stripe) j)) row
