-- Objects: the numbers of a stored file, how its bytes lie in stripes of symbols, and the points of its
-- providers.
--
--   o.shape.n, .l, .b           == how many providers the object has, how many of them are primary, how many
--                                  may be wrong
--   o.profile.size, .keep, .fix == how many symbols a block has, how many of them are kept ones, how many
--                                  wrong ones are corrected
--   o.master, o.id              == the master key, 32 bytes, and the object's number
--   stripe_symbols o            == how many symbols of the file a stripe has: keep for each primary provider
--   stripes o bytes             == how many stripes a file of so many bytes has, 0 for the empty one
--   row_number o stripe place   == the number of a row, which is one place of one stripe over all providers
--   symbol_of bytes number      == a symbol of a file: 16 bytes, those past the file's end being 0
--   symbols_in o bytes stripe   == the stripe_symbols o symbols of a stripe, in layout order: place k of
--                                  primary provider j at j * keep + k
--   kept_by o symbols j         == of the symbols of a stripe the keep that primary provider j keeps
--   bytes_of_symbols symbols    == 16 bytes a symbol
--   is_primary o j              == provider j is one of the first l
--   point o j, points o         == the point of provider j in the dispersal code, j itself for a primary one;
--                                  those of all n
use Rattle.std.specs.Prelude.{ℕ, ◌+◌, ◌-◌, ◌*◌, ◌/◌, Bool, List, take, drop, map, nat_lt}
use Rattle.std.specs.Int.{w128, to_le_bytes, from_le_bytes}
use Rattle.std.specs.List.{flat_map}
use Rattle.code_defs.specs.Points.{upto}
use Rattle.code_defs.specs.Profiles.{Profile}
use Rattle.column_defs.specs.Keys.{point_of}

-- n providers, l of them primary, of which b may be wrong
pub record Shape : Type 0 where
  pub n : ℕ
  pub l : ℕ
  pub b : ℕ

-- a stored file: its codes, the master key and its own number
pub record Object : Type 0 where
  pub shape : Shape
  pub profile : Profile
  pub master : List ℕ
  pub id : ℕ

-- how many symbols of the file a stripe has
abbrev pub stripe_symbols : Object → ℕ
stripe_symbols o = o.shape.l * o.profile.keep

-- how many stripes so many bytes have: a stripe holds 16 bytes a symbol, and the last one is padded
abbrev pub stripes : Object → ℕ → ℕ
stripes o bytes = (bytes + (16 * stripe_symbols o - 1)) / (16 * stripe_symbols o)

-- the number of a row, which is one place of one stripe
abbrev pub row_number : Object → ℕ → ℕ → ℕ
row_number o stripe place = stripe * o.profile.size + place

-- a symbol of the padded file: the 16 bytes from 16 * number on, lowest first, those past the end being 0
unfoldable pub symbol_of : List ℕ → ℕ → ℕ
symbol_of bytes number = from_le_bytes w128 (drop (16 * number) bytes)

-- the symbols of a stripe in layout order
abbrev pub symbols_in : Object → List ℕ → ℕ → List ℕ
symbols_in o bytes stripe =
    map (λ i. symbol_of bytes (stripe * stripe_symbols o + i)) (upto (stripe_symbols o))

-- of the symbols of a stripe those that a primary provider keeps
abbrev pub kept_by : Object → List ℕ → ℕ → List ℕ
kept_by o symbols j = take o.profile.keep (drop (j * o.profile.keep) symbols)

-- the bytes of symbols, 16 each, the lowest first
abbrev pub bytes_of_symbols : List ℕ → List ℕ
bytes_of_symbols symbols = flat_map (λ x. to_le_bytes w128 x) symbols

-- a provider is a primary one
abbrev pub is_primary : Object → ℕ → Bool
is_primary o j = nat_lt j o.shape.l

-- the point of a provider in the dispersal code
abbrev pub point : Object → ℕ → ℕ
point o j = point_of o.shape.l o.master o.id j

-- the points of all providers
abbrev pub points : Object → List ℕ
points o = map (point o) (upto o.shape.n)
