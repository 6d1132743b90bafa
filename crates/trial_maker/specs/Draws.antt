-- The generator of a trial: Knuth's linear congruential generator of MMIX, over the numbers below 2^64.
--
--   next_draw x           == the draw behind a draw
--   draw seed k           == the k-th draw, from 1 on; the seed at 0
--   byte_of x             == the byte that a draw gives: its upper eight bits
--   bytes_behind seed k n == the bytes of the n draws behind the k-th
use Rattle.std.specs.Prelude.{ℕ, zero, suc, ◌+◌, ◌*◌, ◌/◌, ◌%◌, ◌^◌, List, map}
use Rattle.code_defs.specs.Points.{upto}

-- the draw behind a draw
abbrev pub next_draw : ℕ → ℕ
next_draw x = (x * 6364136223846793005 + 1442695040888963407) % 2 ^ 64

-- the k-th draw, from 1 on; the seed at 0
unfoldable pub draw : ℕ → ℕ → ℕ
draw seed zero = seed
draw seed (suc k) = next_draw (draw seed k)

-- the byte that a draw gives
abbrev pub byte_of : ℕ → ℕ
byte_of x = x / 2 ^ 56

-- the bytes of the n draws behind the k-th
unfoldable pub bytes_behind : ℕ → ℕ → ℕ → List ℕ
bytes_behind seed k n = map (λ i. byte_of (draw seed (k + i + 1))) (upto n)
