-- How a pack goes to its end that runs alone, as it is seen of the devices. Records have the newest first.
--
--   PackEndsOver area records answer old new == the pack was not refused, and ran to this end, as a run of the
--                                               machine and by what it left
--   IsPackRefused area records why           == its begin is refused with its cause, or found no memory
--   FillsGap answer gap                      == what fills a gap between the end of a disk and the area that a
--                                               pack writes into, by how it ended: zeros, or any bytes where
--                                               the disk failed
--   StaysAround area records Fills old new   == the bytes of a disk are as they were but for the text of these
--                                               records in this area and the switch byte, with such a gap
--   KeepsAround area records Fills old new   == so is each image of a disk, beside what it read before
use Rattle.std.specs.Prelude.{◌≡◌, ◌⊎◌, ℕ, All, List, ◌++◌, take, drop, None, Some}
use Rattle.device_defs.specs.Cells.{Cells, reads}
use Rattle.device_defs.specs.Images.{IsImage}
use Rattle.record_defs.specs.Records.{Record}
use Rattle.record_defs.specs.Areas.{Area, base_of, end_in}
use Rattle.command_defs.specs.Packs.{PacksAlone, PackedAlone}
use Rattle.command_defs.specs.Refusals.{pack_refusal_over}
use Rattle.command_defs.specs.Seen.{Seen}
use Rattle.vault_core.specs.Carried.{refusal_of}
use Rattle.vault_core.specs.declared.wish.BeginFault.{BeginFault}
use Rattle.vault_core.specs.declared.wish.BeginFault.TheVariants as begin_fault
use Rattle.vault.specs.declared.packing.PackAnswer.{PackAnswer}
use Rattle.vault.specs.declared.packing.PackAnswer.TheVariants as answer
use Rattle.vault.specs.Packing.{pack_answer}
use Rattle.command_jobs.specs.Ends.{NoFaultUndone}

-- a pack ran to this end
pub record PackEndsOver (area : Area) (records : List Record) (answer : PackAnswer)
    (old new : Seen) : Type 0 where
  pub unrefused : pack_refusal_over area records ≡ None
  pub runs : PacksAlone area records (pack_answer answer) old new
  pub left : PackedAlone area records (pack_answer answer) old new
  pub counts : NoFaultUndone old new

-- its begin is refused with its cause, or found no memory
abbrev pub IsPackRefused : Area → List Record → BeginFault → Type 0
IsPackRefused area records why =
    (why ≡ begin_fault.Memory) ⊎ (pack_refusal_over area records ≡ Some (refusal_of why))

-- what fills a gap between the end of a disk and the area that a pack writes into
abbrev pub FillsGap : PackAnswer → List ℕ → Type 0
FillsGap answer.DiskFault gap = Unit {0}
FillsGap how gap = All (λ byte. byte ≡ 0) gap

-- the bytes in front of an area are as they were, but for the switch byte at offset 7 and a gap where they
-- ended before the area, and those behind the text of records in the area
pub record StaysAround (area : Area) (records : List Record) (Fills : List ℕ → Type 0)
    (old new : List ℕ) : Type 0 where
  pub front : take 7 new ≡ take 7 old
  pub gap : List ℕ
  pub fills : Fills gap
  pub middle : drop 8 (take (base_of area) new) ≡ drop 8 (take (base_of area) old) ++ gap
  pub behind : drop (end_in area records) new ≡ drop (end_in area records) old

-- each image of a disk is so, beside what it read before
abbrev pub KeepsAround : Area → List Record → (List ℕ → Type 0) → Cells → Cells → Type 0
KeepsAround area records Fills old new =
    (image : List ℕ) → IsImage new image → StaysAround area records Fills (reads old) image
