-- How a disk in memory is stopped.
--
--   picked cells picks     == the image in which the picks stand for the loose bytes, in order; loose bytes
--                             past the end of the picks stay, and spare picks do not count
--   picks_for cells image  == the picks that give this image: its bytes at the loose offsets
use Rattle.std.specs.Prelude.{ℕ, true, false, List, [], ◌∷◌}
use Rattle.device_defs.specs.Cells.{Cells}

-- loose bytes give way to the picks in order, as far as these go
abbrev pub picked : Cells → List ℕ → List ℕ
picked [] picks = []
picked ((b, false) ∷ cells) picks = b ∷ picked cells picks
picked ((b, true) ∷ cells) [] = b ∷ picked cells []
picked ((b, true) ∷ cells) (p ∷ picks) = p ∷ picked cells picks

-- the bytes of an image that stand where the disk is loose
abbrev pub picks_for : Cells → List ℕ → List ℕ
picks_for [] bytes = []
picks_for (c ∷ cells) [] = []
picks_for ((b, false) ∷ cells) (i ∷ image) = picks_for cells image
picks_for ((b, true) ∷ cells) (i ∷ image) = i ∷ picks_for cells image
