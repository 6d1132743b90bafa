-- What a disk reads when a store is set up or a vault is opened: the text of its active area. Records have
-- the newest first.
--
--   journal_read cells        == the bytes that are looked at: the first 2^24
--   RefusesIn bytes area rs at
--                             == a record stands behind these of an area that may not follow them
--   IsBadStart bytes at       == the first place at which the active area is no text, or a record may not
--                                follow those before it
--   IsRead told area rs       == the disk, where it tells, reads these records in this area; of one that does
--                                not, a start has accepted them
--   IsBadInit bytes at        == bytes are no journal, or the first record is no setup
--   IsSetUpAlready bytes      == the journal's first record is a setup
--   IsFree cells              == they read no records
--   IsBlankIn old area blank  == a disk that read no records, as it is before its first record comes in
--   IsSetUpOn setup old new   == a store is set up on a disk that read no records
--   MayBeLeft setup old image == an image that a failed init may leave
--   IsResynced old new        == a disk that was synced, or was left as it was
use Rattle.std.specs.Prelude.{◌≡◌, ◌≢◌, ◌⊎◌, ℕ, ◌+◌, ◌<◌, ◌≤◌, IsTrue, List, [], ◌∷◌, ◌++◌, length, take, drop, Option, None, IfSome}
use Rattle.std.specs.List.{list_all}
use Rattle.device_defs.specs.Cells.{Cells, reads}
use Rattle.device_defs.specs.Disks.{written, synced}
use Rattle.device_defs.specs.Images.{IsImage}
use Rattle.record_defs.specs.Records.{Record, Setup, SetUp, is_in_grammar, largest_journal}
use Rattle.record_defs.specs.Journal.{text, StandsFor}
use Rattle.record_defs.specs.Areas.{Area, A, base_of, entries, end_in, IsSwitched, StandsActive, HasNoFront, EndsIn, BreaksIn, IsBadAt}
use Rattle.record_defs.specs.Acceptance.{refused, AreAccepted}

-- the bytes that are looked at
abbrev pub journal_read : Cells → List ℕ
journal_read cells = take largest_journal (reads cells)

-- a record stands behind these of an area that may not follow them
pub record RefusesIn (bytes : List ℕ) (area : Area) (rs : List Record) (at : ℕ) : Type 0 where
  pub entry : Record
  pub rest : List ℕ
  pub in_grammar : IsTrue (list_all is_in_grammar (entry ∷ rs))
  pub bytes_are : drop (base_of area) bytes ≡ entries (entry ∷ rs) ++ rest
  pub refused_is : refused rs entry ≢ None
  pub place : at ≡ base_of area + length (entries rs) + 1

-- behind these records of an area the bytes end at a gate, or no record stands, or one that may not follow
abbrev pub StopsBehind : List ℕ → Area → List Record → ℕ → Type 0
StopsBehind bytes area rs at =
    ((e : EndsIn bytes area at) × (e.records ≡ rs))
    ⊎ (((b : BreaksIn bytes area at) × (b.records ≡ rs)) ⊎ RefusesIn bytes area rs at)

-- so does the active area, behind accepted records
pub record StopsActive (bytes : List ℕ) (at : ℕ) : Type 0 where
  pub area : Area
  pub records : List Record
  pub active : IsSwitched bytes area
  pub accepted : AreAccepted records
  pub stops : StopsBehind bytes area records at

-- the first place at which the active area is no text, or a record may not follow those before it
abbrev pub IsBadStart : List ℕ → ℕ → Type 0
IsBadStart bytes at = (HasNoFront bytes × (at ≡ 0)) ⊎ StopsActive bytes at

-- the records that a start reads in the active area, of which there is one at least
pub record IsRead (told : Option Cells) (area : Area) (rs : List Record) : Type 0 where
  pub some : rs ≢ []
  pub in_grammar : IsTrue (list_all is_in_grammar rs)
  pub accepted : AreAccepted rs
  pub room : end_in area rs ≤ largest_journal
  pub reads_are : IfSome told (λ cells. (9 < length (reads cells)) × StandsActive (journal_read cells) area rs)

-- the oldest record is a setup
abbrev pub BeginsWithSetup : List Record → Type 0
BeginsWithSetup [] = ⊥
BeginsWithSetup (SetUp s ∷ []) = Unit {0}
BeginsWithSetup (r ∷ []) = ⊥
BeginsWithSetup (r ∷ rs) = BeginsWithSetup rs

-- the oldest record is another one
abbrev pub BeginsOtherwise : List Record → Type 0
BeginsOtherwise [] = ⊥
BeginsOtherwise (SetUp s ∷ []) = ⊥
BeginsOtherwise (r ∷ []) = Unit {0}
BeginsOtherwise (r ∷ rs) = BeginsOtherwise rs

-- the first record of the active area is another one than a setup
pub record BeginsBadly (bytes : List ℕ) (at : ℕ) : Type 0 where
  pub area : Area
  pub records : List Record
  pub stands : StandsActive bytes area records
  pub otherwise : BeginsOtherwise records
  pub place : at ≡ base_of area + 1

-- bytes are no journal, or the first record is no setup
abbrev pub IsBadInit : List ℕ → ℕ → Type 0
IsBadInit bytes at = IsBadAt bytes at ⊎ BeginsBadly bytes at

-- the journal's first record is a setup
abbrev pub IsSetUpAlready : List ℕ → Type 0
IsSetUpAlready bytes = (rs : List Record) × StandsFor bytes rs × BeginsWithSetup rs

-- a disk that reads no records
abbrev pub IsFree : Cells → Type 0
IsFree cells = (length (reads cells) ≤ 9) ⊎ StandsFor (journal_read cells) []

-- a disk that read no records, as it is before its first record comes in: as it was, or with the text of no
-- record in the first area where it had at most nine bytes
pub data IsBlankIn (old : Cells) (area : Area) (blank : Cells) : Type 0 where
  short : length (reads old) ≤ 9 → area ≡ A → blank ≡ written 0 (text []) old → IsBlankIn old area blank
  empty : StandsActive (journal_read old) area [] → blank ≡ old → IsBlankIn old area blank

-- a store is set up on a disk that read no records: the text of the one setup is written where the active
-- area begins, and no byte is loose
pub record IsSetUpOn (s : Setup) (old new : Cells) : Type 0 where
  pub area : Area
  pub blank : Cells
  pub blank_is : IsBlankIn old area blank
  pub cells_are : new ≡ synced (written (base_of area) (entries (SetUp s ∷ []) ++ 0 ∷ []) blank)

-- an image that a failed init may leave: one of the disk as it was, and where that read no records also one
-- that reads none, or this setup
abbrev pub MayBeLeft : Setup → Cells → List ℕ → Type 0
MayBeLeft s old image =
    IsImage old image ⊎ (IsFree old × ((length image ≤ 9)
    ⊎ (StandsFor image [] ⊎ StandsFor image (SetUp s ∷ []))))

-- a disk that was synced, or was left as it was
abbrev pub IsResynced : Cells → Cells → Type 0
IsResynced old new = (new ≡ old) ⊎ (new ≡ synced old)
