-- How a disk is made ready for its first record and gets it, and what a fault leaves of it.
--
--   IsBlank area cells        == a disk reads a journal with no record in this area, and no byte is loose
--   emptied cells             == the disk after the text of no record was written to its front, and a sync
--   IsReadied area old new    == a disk that has no record was made blank, as it is before its first record
--                                comes in
--   IsHalfReady old new       == what a fault on the way leaves
--   with_first_record base s cells
--                             == the disk after the four moves that bring its first record, a setup, in the
--                                area that begins there
--   first_answer base r       == the answer to a journal whose first record is this, where its area begins
--                                there
--   IsFirstAnswer base rs answer
--                             == the answer to records, by the first one
--   IsTextFault bytes fault   == why bytes are no journal with no record
use Rattle.std.specs.Prelude.{◌≡◌, ◌⊎◌, ℕ, ◌+◌, ◌≤◌, List, [], ◌∷◌, ◌++◌, length, Option, Result, Ok, Err}
use Rattle.device_defs.specs.Cells.{Cells, reads, firm}
use Rattle.device_defs.specs.Disks.{written, synced}
use Rattle.device_defs.specs.Images.{IsImage, EachImage}
use Rattle.record_defs.specs.Records.{Setup, Record, SetUp}
use Rattle.record_defs.specs.Spellings.{spelling}
use Rattle.record_defs.specs.Journal.{text, StandsFor}
use Rattle.record_defs.specs.Areas.{Area, StandsActive}
use Rattle.record_codec.specs.declared.records.Record.{Record as RecordValue}
use Rattle.record_codec.specs.declared.records.Record.TheVariants as kind
use Rattle.vault_open.specs.declared.fault.InitFault.{InitFault}
use Rattle.vault_open.specs.declared.fault.InitFault.TheVariants as init_fault
use Rattle.opening_defs.specs.Journals.{IsBlankIn, BeginsWithSetup, BeginsOtherwise, IsBadInit}

-- a disk reads a journal with no record in an area, and no byte is loose
pub record IsBlank (area : Area) (cells : Cells) : Type 0 where
  pub bytes : List ℕ
  pub firm_is : cells ≡ firm bytes
  pub stands : StandsActive bytes area []

-- the text of no record is written to the front, and the disk is synced
abbrev pub emptied : Cells → Cells
emptied cells = synced (written 0 (text []) cells)

-- each image has at most nine bytes
abbrev pub AreShort : Cells → Type 0
AreShort cells = (image : List ℕ) → IsImage cells image → length image ≤ 9

-- a disk that has no record was made blank, as it is before its first record comes in
pub record IsReadied (area : Area) (old new : Cells) : Type 0 where
  pub blank : Cells
  pub blank_is : IsBlankIn old area blank
  pub synced_is : new ≡ synced blank
  pub reads_none : IsBlank area new

-- what a fault on the way leaves: images that the disk had, or such as count as empty where it did
abbrev pub IsHalfReady : Cells → Option Cells → Type 0
IsHalfReady old new =
    EachImage new (IsImage old) ⊎ ((length (reads old) ≤ 9) × EachImage new (λ image. length image ≤ 9))

-- the four moves that bring the first record, a setup, in the area that begins there
abbrev pub with_first_record : ℕ → Setup → Cells → Cells
with_first_record base s cells =
    synced (written base (1 ∷ []) (synced (written (base + 1) (spelling (SetUp s) ++ 0 ∷ []) cells)))

-- the answer to a journal whose first record is this, where its area begins there
abbrev pub first_answer : ℕ → RecordValue → InitFault
first_answer base (kind.Setup setup master) = init_fault.Already
first_answer base r = init_fault.BadJournal (base + 1)

-- the answer to records, by the first one
abbrev pub IsFirstFault : ℕ → List Record → InitFault → Type 0
IsFirstFault base rs init_fault.Already = BeginsWithSetup rs
IsFirstFault base rs (init_fault.BadJournal at) = BeginsOtherwise rs × (at ≡ base + 1)
IsFirstFault base rs why = ⊥

-- the answer to records, of which there may be none
abbrev pub IsFirstAnswer : ℕ → List Record → Result Unit InitFault → Type 0
IsFirstAnswer base rs (Ok done) = rs ≡ []
IsFirstAnswer base rs (Err why) = IsFirstFault base rs why

-- why bytes are no journal with no record
abbrev pub IsTextFault : List ℕ → InitFault → Type 0
IsTextFault bytes (init_fault.BadJournal at) = IsBadInit bytes at
IsTextFault bytes init_fault.Already = (rs : List Record) × StandsFor bytes rs × BeginsWithSetup rs
IsTextFault bytes init_fault.Memory = ⊥
IsTextFault bytes init_fault.BadSetup = ⊥
IsTextFault bytes init_fault.DiskFault = ⊥
