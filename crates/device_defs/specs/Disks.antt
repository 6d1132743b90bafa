-- What the calls of a disk do to its cells.
--
--   spliced at new old      == new in place of as many elements of old from at on, or more where old ends
--                              first
--   written at bytes cells  == the cells after a write: zero bytes in a gap, and the bytes, all of them loose
--   marked at n cells       == the cells with those in the range of a write of n bytes made loose, as far
--                              as they are there
--   halved at bytes cells   == marked, and the first half of the bytes, rounded down, written
--   Torn at n old new       == how the cells may go where a write of n bytes failed
--   synced cells            == the cells after a sync: none is loose
--   Stopped old new         == how the cells may go at a stop: to an image, none of it loose
use Rattle.std.specs.Prelude.{◌≡◌, ℕ, ◌+◌, ◌-◌, ◌/◌, ◌≤◌, min, List, ◌++◌, length, take, drop, replicate}
use Rattle.device_defs.specs.Cells.{Cells, reads, firm, loose}
use Rattle.device_defs.specs.Images.{IsImage}

-- new elements in place of as many old ones from an offset on
abbrev pub spliced : {X : Type 0} → ℕ → List X → List X → List X
spliced at new old = take at old ++ (new ++ drop (at + length new) old)

-- after a write: zero bytes in a gap, and then the bytes, all of them loose
abbrev pub written : ℕ → List ℕ → Cells → Cells
written at bytes old = spliced (min at (length old)) (loose (replicate (at - length old) 0 ++ bytes)) old

-- After a write of n bytes that failed. The range begins at its offset, or at the end where there is a gap.
-- Some bytes in it are loose, any ones, so that the length is between the old one and the one that was to
-- be, and so that all of the range up to the new end is loose.
pub record Torn (at n : ℕ) (old new : Cells) : Type 0 where
  pub bytes : List ℕ
  pub held : new ≡ spliced (min at (length old)) (loose bytes) old
  pub no_longer : min at (length old) + length bytes ≤ at + n
  pub no_shorter : min (at + n) (length old) ≤ min at (length old) + length bytes

-- the cells that a write of n bytes would replace, made loose
abbrev pub marked : ℕ → ℕ → Cells → Cells
marked at n old = spliced from (loose (reads (take (min (at + n) (length old) - from) (drop from old)))) old
  where
    from : ℕ
    from = min at (length old)

-- the same, with the first half of the bytes written, rounded down
abbrev pub halved : ℕ → List ℕ → Cells → Cells
halved at bytes old = written at (take (length bytes / 2) bytes) (marked at (length bytes) old)

-- after a sync: the same bytes, none of them loose
abbrev pub synced : Cells → Cells
synced cells = firm (reads cells)

-- a stop leaves an image, none of it loose
abbrev pub Stopped : Cells → Cells → Type 0
Stopped old new = (image : List ℕ) × IsImage old image × (new ≡ firm image)
