-- What a pack leaves of a disk around its text, whatever way it ends.
--
--   ZerosUnlessFault status gap == a gap is zeros, unless the status is that of a fault of the disk
--   PackedAround area records old new status
--                               == a disk was at most synced; or each of its images has the bytes of before but
--                                  for the text of the packed records in the other area, the switch byte, and
--                                  such a gap where the disk ended before that area
--   LeavesAround old new end    == a `pack` leaves its disk so, of the records that it read in an area
--   PacksOn command old new end == so does a command that is a `pack`
use Rattle.std.specs.Prelude.{◌≡◌, ◌≢◌, ℕ, All, List, Option}
use Rattle.device_defs.specs.Cells.{Cells}
use Rattle.device_defs.specs.Told.{Goes}
use Rattle.record_defs.specs.Records.{Record}
use Rattle.record_defs.specs.Areas.{Area, other_area}
use Rattle.record_defs.specs.Packed.{packed}
use Rattle.opening_defs.specs.Journals.{IsResynced}
use Rattle.command_defs.specs.Forms.{Command, PackJournal}
use Rattle.command_defs.specs.Opens.{IsOpened}
use Rattle.command_defs.specs.Seen.{Seen, Ending, KeepsDisk}
use Rattle.command_jobs.specs.Packs.{KeepsAround}

-- a gap is zeros, unless the status is that of a fault of the disk
abbrev pub ZerosUnlessFault : ℕ → List ℕ → Type 0
ZerosUnlessFault status gap = status ≢ 12 → All (λ byte. byte ≡ 0) gap

-- a disk was at most synced, or is as before around the packed text
pub data PackedAround (area : Area) (records : List Record) (old new : Option Cells) (status : ℕ) : Type 0 where
  kept : Goes IsResynced old new → PackedAround area records old new status
  written : Goes (KeepsAround (other_area area) (packed records) (ZerosUnlessFault status)) old new
      → PackedAround area records old new status

-- a `pack` left its disk so, or found no store and at most synced it
pub data LeavesAround (old new : Seen) (end : Ending) : Type 0 where
  unopened : KeepsDisk old new → LeavesAround old new end
  over : (records : List Record) → (opened : IsOpened old records)
      → PackedAround opened.area records old.disk new.disk end.status → LeavesAround old new end

-- so does a command that is a `pack`
abbrev pub PacksOn : Command → Seen → Seen → Ending → Type 0
PacksOn PackJournal old new end = LeavesAround old new end
PacksOn command old new end = Unit {0}
