-- What a disk tells. A cell is a byte, and whether it is loose: whether it was written since the last
-- successful sync, so that a stop may leave any byte in its place.
--
--   reads cells          == the bytes that the disk reads
--   loose_offsets cells  == the offsets of the loose bytes, ascending
--   is_loose_at cells k  == the byte at offset k is loose; false past the end
--   firm bytes           == cells that read as these bytes, none of them loose
--   loose bytes          == cells that read as these bytes, all of them loose
--   Ascends low ks       == each number of ks is at least low, and greater than the one before it
use Rattle.std.specs.Prelude.{ℕ, zero, suc, ◌≤◌, Bool, true, false, List, [], ◌∷◌, map}

-- bytes, each with whether it is loose
abbrev pub Cells : Type 0
Cells = List (ℕ × Bool)

-- what is read
abbrev pub reads : Cells → List ℕ
reads cells = map (λ c. c.0) cells

-- bytes that a stop leaves as they are
abbrev pub firm : List ℕ → Cells
firm bytes = map (λ b. (b, false)) bytes

-- bytes in whose place a stop may leave any others
abbrev pub loose : List ℕ → Cells
loose bytes = map (λ b. (b, true)) bytes

-- the byte at this offset is loose
abbrev pub is_loose_at : Cells → ℕ → Bool
is_loose_at [] k = false
is_loose_at (c ∷ cells) zero = c.1
is_loose_at (c ∷ cells) (suc k) = is_loose_at cells k

-- the offsets of the loose bytes, where the first byte's offset is at
abbrev pub loose_from : ℕ → Cells → List ℕ
loose_from at [] = []
loose_from at ((b, false) ∷ cells) = loose_from (suc at) cells
loose_from at ((b, true) ∷ cells) = at ∷ loose_from (suc at) cells

-- the offsets of the loose bytes
abbrev pub loose_offsets : Cells → List ℕ
loose_offsets cells = loose_from 0 cells

-- the numbers ascend, from low on
abbrev pub Ascends : ℕ → List ℕ → Type 0
Ascends low [] = Unit {0}
Ascends low (k ∷ ks) = (low ≤ k) × Ascends (suc k) ks
