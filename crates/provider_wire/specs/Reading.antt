-- Reading a request from left to right: its plain data and what stands behind it; None where no request
-- stands at the front.
use Rattle.std.specs.Prelude.{ℕ, zero, suc, ◌*◌, ◌^◌, List, [], ◌∷◌, ◌++◌, length, take, drop, Option, Some, None, nat_lt, ◌==◌, if◌then◌else◌}
use Rattle.std.specs.Int.{w32, w64, w128, from_le_bytes}
use Rattle.record_codec.specs.Reading.{◌>>=◌, number_at}
use Rattle.column_defs.specs.Challenges.{Challenge}
use Rattle.wire_defs.specs.Requests.{Request, Store, Fetch, Ask, Remove, is_within}

-- the symbols of the first bytes, 16 a symbol
unfoldable pub symbols_read : ℕ → List ℕ → List ℕ
symbols_read zero bytes = []
symbols_read (suc n) bytes = symbols_read n bytes ++ from_le_bytes w128 (take 16 (drop (16 * n) bytes)) ∷ []

-- a number of one byte within its limits
unfoldable pub within_at : ℕ → ℕ → List ℕ → Option (ℕ × List ℕ)
within_at low high [] = None
within_at low high (n ∷ rest) = if is_within low high n then Some (n, rest) else None

-- a block behind its size
unfoldable pub block_read_at : List ℕ → Option (List ℕ × List ℕ)
block_read_at bytes = do
  size ← within_at 1 128 bytes
  if nat_lt (length size.1) (16 * size.0) then None
      else Some (symbols_read size.0 (take (16 * size.0) size.1), drop (16 * size.0) size.1)

-- a store: its object, its stripe and the block
unfoldable pub store_at : List ℕ → Option (Request × List ℕ)
store_at bytes = do
  object ← number_at w64 bytes
  stripe ← number_at w32 object.1
  block ← block_read_at stripe.1
  Some (Store object.0 stripe.0 block.0, block.1)

-- a fetch: its object, its stripe and how many symbols
unfoldable pub fetch_at : List ℕ → Option (Request × List ℕ)
fetch_at bytes = do
  object ← number_at w64 bytes
  stripe ← number_at w32 object.1
  size ← within_at 1 128 stripe.1
  Some (Fetch object.0 stripe.0 size.0, size.1)

-- a seed of 32 bytes
unfoldable pub seed_at : List ℕ → Option (List ℕ × List ℕ)
seed_at bytes = if nat_lt (length bytes) 32 then None else Some (take 32 bytes, drop 32 bytes)

-- how many rows
unfoldable pub rows_at : List ℕ → Option (ℕ × List ℕ)
rows_at bytes = do
  rows ← number_at w64 bytes
  if is_within 1 (2 ^ 32) rows.0 then Some (rows.0, rows.1) else None

-- a challenge: its seed, its rows, the size of a block and its picks
unfoldable pub challenge_read_at : List ℕ → Option (Challenge × List ℕ)
challenge_read_at bytes = do
  seed ← seed_at bytes
  rows ← rows_at seed.1
  size ← within_at 1 128 rows.1
  picks ← within_at 1 64 size.1
  Some (record { seed = seed.0; rows = rows.0; size = size.0; picks = picks.0 }, picks.1)

-- an ask: its object and the challenge
unfoldable pub ask_at : List ℕ → Option (Request × List ℕ)
ask_at bytes = do
  object ← number_at w64 bytes
  c ← challenge_read_at object.1
  Some (Ask object.0 c.0, c.1)

-- a removal: its object
unfoldable pub remove_at : List ℕ → Option (Request × List ℕ)
remove_at bytes = do
  object ← number_at w64 bytes
  Some (Remove object.0, object.1)

-- a request behind its kind
unfoldable pub request_at : List ℕ → Option (Request × List ℕ)
request_at [] = None
request_at (kind ∷ rest) =
    if kind == 1 then store_at rest else (if kind == 2 then fetch_at rest else
    (if kind == 3 then ask_at rest else (
    if kind == 4 then remove_at rest else None)))
