-- The bytes of a file with the blocks of an object.
--
--   place_at size stripe == where the place of a stripe begins, in a file of blocks of so many bytes
--   mark_bytes stripe    == what stands behind the block of a stripe: `hail`, and its number
--   header_bytes size    == what the file begins with: `HAILstk1`, and the bytes of a block
use Rattle.std.specs.Prelude.{ℕ, ◌+◌, ◌*◌, List, ◌++◌, codes}
use Rattle.std.specs.Int.{w32, w64, to_le_bytes}

-- behind the header, and behind a place of the block's bytes and eight more for each stripe before
abbrev pub place_at : ℕ → ℕ → ℕ
place_at size stripe = 16 + stripe * (size + 8)

-- four letters, and the stripe in four bytes, the lowest first
abbrev pub mark_bytes : ℕ → List ℕ
mark_bytes stripe = codes "hail" ++ to_le_bytes w32 stripe

-- eight letters, and the bytes of a block in eight bytes, the lowest first
abbrev pub header_bytes : ℕ → List ℕ
header_bytes size = codes "HAILstk1" ++ to_le_bytes w64 size
