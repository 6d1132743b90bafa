-- The first byte of a request, how long it is, and the size that it speaks of.
--
--   HasShape bytes == a store and a fetch have a size up to 128 at its place, a question has 51 bytes, and a
--                     removal has its object
use Rattle.std.specs.Prelude.{◌≡◌, ◌≤◌, ◌⊎◌, ℕ, List, [], ◌∷◌, length, slice_index}

-- a store and a fetch have a size up to 128 at its place, a question has 51 bytes, and a removal its object
abbrev pub HasShape : List ℕ → Type 0
HasShape [] = ⊥
HasShape (kind ∷ rest) =
    ((kind ≡ 1) × (13 ≤ length rest) × (slice_index rest 12 ≤ 128))
    ⊎ ((kind ≡ 2) × (13 ≤ length rest) × (slice_index rest 12 ≤ 128))
    ⊎ ((kind ≡ 3) × (length rest ≡ 50))
    ⊎ ((kind ≡ 4) × (length rest ≡ 8))
