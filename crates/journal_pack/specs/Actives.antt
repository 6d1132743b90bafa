-- What the active area of bytes is read as. Lists of records have the newest first.
--
--   IsReadActive bytes active == the bytes stand for the records in the area that begins at this base, and
--                                their text ends here
--   IsActiveFault bytes fault == why nothing was read: the one bad place, or want of memory
use Rattle.std.specs.Prelude.{◌≡◌, ℕ, List}
use Rattle.record_defs.specs.Areas.{Area, base_of, end_in, StandsActive, IsBadAt}
use Rattle.journal_core.specs.declared.fault.JournalFault.{JournalFault}
use Rattle.journal_core.specs.declared.fault.JournalFault.TheVariants as journal_fault
use Rattle.journal_core.specs.Lists.{newest_first}
use Rattle.journal_pack.specs.declared.active.Active.{Active}

-- the bytes stand for records in an area, whose text ends here
pub record IsReadActive (bytes : List ℕ) (active : Active) : Type 0 where
  pub area : Area
  pub stands : StandsActive bytes area (newest_first active.records.items)
  pub base : active.base ≡ base_of area
  pub end : active.end ≡ end_in area (newest_first active.records.items)

-- why nothing was read
abbrev pub IsActiveFault : List ℕ → JournalFault → Type 0
IsActiveFault bytes (journal_fault.Bad bad) = IsBadAt bytes bad.at
IsActiveFault bytes journal_fault.Memory = Unit {0}
