-- The products of a constant with the sixteen numbers of each half byte of a symbol.
use Rattle.std.specs.Prelude.{◌≡◌, ℕ, ◌*◌, ◌/◌, ◌%◌, ◌^◌, ◌<◌, List, length, slice_index}
use Rattle.hail_field.specs.Nim.{nim_mul}

-- a constant times the number place % 16 of the half byte place / 16
abbrev pub product_at : ℕ → ℕ → ℕ
product_at c place = nim_mul c (place % 16 * 2 ^ (4 * (place / 16)))

-- each place holds its product
pub record HoldsProducts (c : ℕ) (entries : List ℕ) : Type 0 where
  pub full : length entries ≡ 512
  pub each : (place : ℕ) → place < 512 → slice_index entries place ≡ product_at c place
