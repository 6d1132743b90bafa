-- What the decoder at the points behind the kept ones begins with, and what it ends with.
use Rattle.std.specs.Prelude.{◌≡◌, ◌<◌, ◌+◌, ℕ, List, [], ◌∷◌, length, slice_index}
use Rattle.std.specs.List.{range_with_len}
use Rattle.hail_field.specs.Nim.{nim_add, nim_mul}
use Rattle.code_defs.specs.Polynomials.{value, vanish, interpolate, trim}
use Rattle.code_defs.specs.Points.{upto}
use Rattle.code_defs.specs.Profiles.{Profile}
use Rattle.code_defs.specs.ServerCode.{IsNear}
use Rattle.hail_poly.specs.Registers.{Registers}

-- the registers hold the interpolation of shares at the points from keep on; a share times the product of x
-- + point over the points before these is the sum of the block's symbol and the word's
pub record IsLoadedBehind (keep : ℕ) (block word : List ℕ) (size : ℕ) (work : Registers) : Type 0 where
  pub shares : List ℕ
  pub full : keep + length shares ≡ length block
  pub each : (k : ℕ) → k < length shares →
      nim_mul (slice_index shares k) (value (vanish (upto keep)) (keep + k))
      ≡ nim_add (slice_index block (keep + k)) (slice_index word (keep + k))
  pub loaded : work ≡ record {
    size = size;
    whole = vanish (range_with_len keep (length shares));
    rest = trim (interpolate (range_with_len keep (length shares)) shares);
    factor = 1 ∷ [];
  }

-- q has the values of each polynomial that is near the block
abbrev pub TakesNear : Profile → List ℕ → List ℕ → Type 0
TakesNear profile block q = (p : List ℕ) → IsNear profile block p → (x : ℕ) → value q x ≡ value p x
