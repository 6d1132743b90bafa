-- Images: what a stop may leave of a disk.
--
--   IsImageOf bytes offsets image  == image is as long as the bytes, and equals them at every offset that
--                                     is not listed
--   IsImage cells image            == image is one of what the cells read, by the loose offsets (law images)
--   EachImage told P               == P holds of each image, where the disk tells its cells
use Rattle.std.specs.Prelude.{◌≡◌, ℕ, ◌<◌, ◌==◌, Bool, false, List, [], ◌∷◌, length, slice_get, Option, IfSome}
use Rattle.std.specs.List.{list_any}
use Rattle.device_defs.specs.Cells.{Cells}

-- an offset is listed
abbrev pub is_among : List ℕ → ℕ → Bool
is_among offsets k = list_any (λ offset. offset == k) offsets

-- as long as what is read, and equal to it at every offset that isn't loose
pub record IsImageOf (bytes offsets image : List ℕ) : Type 0 where
  pub size : length image ≡ length bytes
  pub same : (k : ℕ) → k < length bytes → is_among offsets k ≡ false → slice_get image k ≡ slice_get bytes k

-- the same, cell by cell: any number in place of a loose byte, and each other byte itself
abbrev pub IsImage : Cells → List ℕ → Type 0
IsImage [] [] = Unit {0}
IsImage [] (b ∷ bytes) = ⊥
IsImage (c ∷ cells) [] = ⊥
IsImage (c ∷ cells) (b ∷ bytes) = (c.1 ≡ false → b ≡ c.0) × IsImage cells bytes

-- a fact holds of each image of a disk that tells its cells
abbrev pub EachImage : Option Cells → (List ℕ → Type 0) → Type 0
EachImage told P = IfSome told (λ cells. (image : List ℕ) → IsImage cells image → P image)
