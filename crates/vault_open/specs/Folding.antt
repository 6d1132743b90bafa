-- The text of the active area taken into a table, record by record. Lists of records have the newest first.
--
--   IsReadInto bytes area rs t gate     == from where an area begins, the bytes up to a gate are the text of
--                                          these records, which fold to the table
--   IsFolded bytes area rs t base end   == the bytes stand for records in this area, which begins at this
--                                          base, that fold to the table, and their text ends here
--   IsFoldFault bytes fault             == why the bytes were not taken
use Rattle.std.specs.Prelude.{◌≡◌, ℕ, ◌≤◌, List}
use Rattle.record_defs.specs.Records.{Record, largest_journal}
use Rattle.record_defs.specs.Areas.{Area, base_of, end_in, IsSwitched, StandsActive}
use Rattle.record_defs.specs.Acceptance.{AreAccepted}
use Rattle.journal_core.specs.Gates.{IsReadIn}
use Rattle.vault_table.specs.Values.{Kept, IsFoldOf}
use Rattle.vault_open.specs.declared.fault.StartFault.{StartFault}
use Rattle.vault_open.specs.declared.fault.StartFault.TheVariants as start_fault
use Rattle.opening_defs.specs.Journals.{IsBadStart}

-- the bytes up to a gate of an area are the text of records that fold to the table
pub record IsReadInto (bytes : List ℕ) (area : Area) (rs : List Record) (t : Kept) (gate : ℕ) : Type 0 where
  pub active : IsSwitched bytes area
  pub read : IsReadIn bytes area rs gate
  pub accepted : AreAccepted rs
  pub folds : IsFoldOf rs t

-- the bytes stand for records in an area that fold to the table
pub record IsFolded (bytes : List ℕ) (area : Area) (rs : List Record) (t : Kept) (base end : ℕ) : Type 0 where
  pub stands : StandsActive bytes area rs
  pub accepted : AreAccepted rs
  pub folds : IsFoldOf rs t
  pub base_is : base ≡ base_of area
  pub end_is : end ≡ end_in area rs
  pub room : end_in area rs ≤ largest_journal

-- why bytes were not taken
abbrev pub IsFoldFault : List ℕ → StartFault → Type 0
IsFoldFault bytes (start_fault.BadJournal at) = IsBadStart bytes at
IsFoldFault bytes start_fault.Memory = Unit {0}
IsFoldFault bytes start_fault.NotSetUp = ⊥
IsFoldFault bytes start_fault.DiskFault = ⊥
