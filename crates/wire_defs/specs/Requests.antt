-- Requests to a provider as plain data, and their bytes. All numbers are little-endian. Lists of requests
-- have the newest first; their text stands in the order of sending.
--
--   Request               == a store, a fetch, an ask or a removal, with its fields
--   is_request r          == every field is within its limits
--   request_bytes r       == the bytes of a request: its kind, and then its fields
--   SpellsRequest bytes r == the bytes are the spelling of this request, whose fields are within their limits
--   SpellsNoRequest bytes == no request is spelled at the front of the bytes
--   is_bad_request bytes  == the bytes begin with no kind of request, or with one that has a field out of its
--                            limits
--   requests_text rs      == the bytes of requests, one after the other
--   AreFrames bytes rs    == the requests that the bytes spell
use Rattle.std.specs.Prelude.{◌≡◌, ℕ, ◌+◌, ◌^◌, ◌==◌, ◌&&◌, ◌||◌, Bool, false, not, List, [], ◌∷◌, ◌++◌, length, take, drop, slice_index, IsTrue, nat_lt, nat_le, if◌then◌else◌}
use Rattle.std.specs.Int.{w32, w64, to_le_bytes, from_le_bytes}
use Rattle.std.specs.List.{list_all}
use Rattle.column_defs.specs.Challenges.{Challenge}
use Rattle.column_defs.specs.Objects.{bytes_of_symbols}

-- what a provider is asked to do
pub data Request : Type 0 where
  Store : (object stripe : ℕ) (block : List ℕ) → Request
  Fetch : (object stripe size : ℕ) → Request
  Ask : (object : ℕ) (challenge : Challenge) → Request
  Remove : (object : ℕ) → Request

-- a number from one to another
abbrev pub is_within : ℕ → ℕ → ℕ → Bool
is_within low high n = nat_le low n && nat_le n high

-- a list of 1 to 128 symbols
abbrev pub is_block : List ℕ → Bool
is_block block = is_within 1 128 (length block) && list_all (λ symbol. nat_lt symbol (2 ^ 128)) block

-- a seed of 32 bytes, 1 to 2^32 rows, 1 to 128 symbols a block, and 1 to 64 picks
abbrev pub is_challenge : Challenge → Bool
is_challenge c =
    (length c.seed == 32) && list_all (λ b. nat_lt b 256) c.seed && is_within 1 (2 ^ 32) c.rows
    && is_within 1 128 c.size && is_within 1 64 c.picks

-- every field is within its limits
abbrev pub is_request : Request → Bool
is_request (Store object stripe block) = nat_lt object (2 ^ 64) && nat_lt stripe (2 ^ 32) && is_block block
is_request (Fetch object stripe size) =
    nat_lt object (2 ^ 64) && nat_lt stripe (2 ^ 32) && is_within 1 128 size
is_request (Ask object c) = nat_lt object (2 ^ 64) && is_challenge c
is_request (Remove object) = nat_lt object (2 ^ 64)

-- an object and a stripe
abbrev pub place_bytes : ℕ → ℕ → List ℕ
place_bytes object stripe = to_le_bytes w64 object ++ to_le_bytes w32 stripe

-- a block behind its size
abbrev pub block_bytes : List ℕ → List ℕ
block_bytes block = length block ∷ bytes_of_symbols block

-- a challenge: its seed, its rows, the size of a block and its picks
abbrev pub challenge_bytes : Challenge → List ℕ
challenge_bytes c = c.seed ++ (to_le_bytes w64 c.rows ++ c.size ∷ c.picks ∷ [])

-- the bytes of a request: its kind, and then its fields
unfoldable pub request_bytes : Request → List ℕ
request_bytes (Store object stripe block) = 1 ∷ (place_bytes object stripe ++ block_bytes block)
request_bytes (Fetch object stripe size) = 2 ∷ (place_bytes object stripe ++ size ∷ [])
request_bytes (Ask object c) = 3 ∷ (to_le_bytes w64 object ++ challenge_bytes c)
request_bytes (Remove object) = 4 ∷ to_le_bytes w64 object

-- bytes spell a request
pub record SpellsRequest (bytes : List ℕ) (r : Request) : Type 0 where
  pub is_request : IsTrue (is_request r)
  pub bytes_are : bytes ≡ request_bytes r

-- no request is spelled at the front of bytes
abbrev pub SpellsNoRequest : List ℕ → Type 0
SpellsNoRequest bytes =
    (r : Request) (front rest : List ℕ) → SpellsRequest front r → bytes ≡ front ++ rest → ⊥

-- the byte at a place is there, and out of its limits
abbrev pub misses : ℕ → ℕ → ℕ → List ℕ → Bool
misses place low high bytes =
    nat_lt place (length bytes) && not (is_within low high (slice_index bytes place))

-- the eight bytes from a place on are there, and their number is out of its limits
abbrev pub number_misses : ℕ → ℕ → ℕ → List ℕ → Bool
number_misses place low high bytes =
    nat_le (place + 8) (length bytes)
    && not (is_within low high (from_le_bytes w64 (take 8 (drop place bytes))))

-- The bytes begin no request, whatever comes behind them: the kind is none of the four, or a field of the
-- kind stands whole in the bytes and is out of its limits. The size of a store and a fetch stands behind 12
-- bytes of object and stripe, the rows of an ask behind 8 of the object and 32 of the seed, its size behind
-- these, and then its picks.
abbrev pub is_bad_request : List ℕ → Bool
is_bad_request [] = false
is_bad_request (kind ∷ rest) =
    if (kind == 1) || (kind == 2) then misses 12 1 128 rest else (
    if kind == 3 then number_misses 40 1 (2 ^ 32) rest || misses 48 1 128 rest || misses 49 1 64 rest
    else not (kind == 4))

-- the bytes of requests, one after the other
abbrev pub requests_text : List Request → List ℕ
requests_text [] = []
requests_text (r ∷ rs) = requests_text rs ++ request_bytes r

-- the requests that bytes spell
pub record AreFrames (bytes : List ℕ) (rs : List Request) : Type 0 where
  pub are_requests : IsTrue (list_all is_request rs)
  pub bytes_are : bytes ≡ requests_text rs
