-- What a disk has in the course of a pack, from records in one area to others in the other. Lists of records
-- have the newest first.
--
--   switch_to to                     == the switch byte that names the area that begins there
--   IsAfterPack n area rs qs cells   == after n moves: write the text into the other area, sync, write the
--                                       switch byte, sync
--   IsBetween area rs qs cells       == both areas have their text, and the switch byte is loose, or names
--                                       the old one
--   IsPackGivenUp n area rs qs cells == after a fault of the move that came after n
use Rattle.std.specs.Prelude.{◌⊎◌, ℕ, zero, suc, ◌^◌, ◌==◌, List, if◌then◌else◌}
use Rattle.device_defs.specs.Cells.{Cells}
use Rattle.record_defs.specs.Records.{Record}
use Rattle.record_defs.specs.Areas.{Area, other_area, switch_of}
use Rattle.journal_core.specs.Texts.{HasText, HasLooseText, IsNamed, IsSwitching, StandsFirm}

-- the digit 2 for the area that begins at 8,388,608, and the digit 1 for the other
abbrev pub switch_to : ℕ → ℕ
switch_to to = if to == 2 ^ 23 then 50 else 49

-- after so many moves of a pack
abbrev pub IsAfterPack : ℕ → Area → List Record → List Record → Cells → Type 0
IsAfterPack zero area rs qs cells = StandsFirm area rs cells
IsAfterPack (suc zero) area rs qs cells = StandsFirm area rs cells × HasLooseText cells (other_area area) qs
IsAfterPack (suc (suc zero)) area rs qs cells = StandsFirm area rs cells × HasText cells (other_area area) qs
IsAfterPack (suc (suc (suc zero))) area rs qs cells =
    IsSwitching cells (switch_of (other_area area)) × HasText cells area rs
    × HasText cells (other_area area) qs
IsAfterPack (suc (suc (suc (suc n)))) area rs qs cells = StandsFirm (other_area area) qs cells

-- both areas have their text, and the switch byte is loose, or names the old area
pub record IsBetween (area : Area) (rs qs : List Record) (cells : Cells) : Type 0 where
  pub front : IsNamed cells area ⊎ ((switch : ℕ) × IsSwitching cells switch)
  pub old : HasText cells area rs
  pub new : HasText cells (other_area area) qs

-- after a fault of the move that came after so many
abbrev pub IsPackGivenUp : ℕ → Area → List Record → List Record → Cells → Type 0
IsPackGivenUp zero area rs qs cells = StandsFirm area rs cells
IsPackGivenUp (suc zero) area rs qs cells = StandsFirm area rs cells
IsPackGivenUp (suc (suc n)) area rs qs cells = IsBetween area rs qs cells
