-- Four moves on a disk, of which the third decides: write bytes, sync, write one byte, sync.
--
--   moved_on n at bytes mark_at mark cells == the cells after the move that comes after n
--   MayBeTorn n at size mark_at old new    == how the cells may go where that move failed: torn by a write,
--                                             as before at a sync
use Rattle.std.specs.Prelude.{◌≡◌, ℕ, zero, suc, List, [], ◌∷◌}
use Rattle.device_defs.specs.Cells.{Cells}
use Rattle.device_defs.specs.Disks.{written, Torn, synced}

-- the cells after the move that comes after so many
abbrev pub moved_on : ℕ → ℕ → List ℕ → ℕ → ℕ → Cells → Cells
moved_on zero at bytes mark_at mark cells = written at bytes cells
moved_on (suc zero) at bytes mark_at mark cells = synced cells
moved_on (suc (suc zero)) at bytes mark_at mark cells = written mark_at (mark ∷ []) cells
moved_on (suc (suc (suc n))) at bytes mark_at mark cells = synced cells

-- what a fault of that move may leave, where so many bytes were to be written
abbrev pub MayBeTorn : ℕ → ℕ → ℕ → ℕ → Cells → Cells → Type 0
MayBeTorn zero at size mark_at old new = Torn at size old new
MayBeTorn (suc zero) at size mark_at old new = new ≡ old
MayBeTorn (suc (suc zero)) at size mark_at old new = Torn mark_at 1 old new
MayBeTorn (suc (suc (suc n))) at size mark_at old new = new ≡ old
