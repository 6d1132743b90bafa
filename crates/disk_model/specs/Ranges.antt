-- The range of offsets in which bytes of a disk in memory may be loose.
use Rattle.std.specs.Prelude.{◌≡◌, ◌≢◌, ◌⊎◌, ℕ, ◌<◌, ◌≤◌, Bool, true, false, List, slice_get, Some}
use Rattle.device_defs.specs.Cells.{Cells, is_loose_at}

-- no byte outside of the range is loose
abbrev pub IsFirmOutside : ℕ → ℕ → Cells → Type 0
IsFirmOutside from to cells = (k : ℕ) → (k < from) ⊎ (to ≤ k) → is_loose_at cells k ≡ false

-- no mark stands outside of the range
abbrev pub IsUnmarkedOutside : ℕ → ℕ → List Bool → Type 0
IsUnmarkedOutside from to marks = (k : ℕ) → (k < from) ⊎ (to ≤ k) → slice_get marks k ≢ Some true
