-- The products of bytes, as tables.
use Rattle.std.specs.Prelude.{◌≡◌, ◌<◌, ◌*◌, ℕ, List, length, get_or, slice_index}
use Rattle.hail_field.specs.Nim.{nim_mul}
use Rattle.server_code.specs.declared.products.Multiples.{Multiples}

-- the products of c with the numbers below 16, and with 16 times these
pub record AreMultiples (c : ℕ) (multiples : Multiples) : Type 0 where
  pub low : (b : ℕ) → b < 16 → slice_index multiples.low b ≡ nim_mul b c
  pub high : (b : ℕ) → b < 16 → slice_index multiples.high b ≡ nim_mul (16 * b) c

-- those of each byte, in order
pub record AreProducts (table : List Multiples) : Type 0 where
  pub full : length table ≡ 256
  pub each : (c : ℕ) (other : Multiples) → c < 256 → AreMultiples c (get_or table c other)
