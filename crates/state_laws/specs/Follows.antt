-- Records that may come into effect next.
--
--   IsHeld bytes id size                 == an object number stands for bytes, and for so many
--   BringsHeld bytes entry               == so does the number that a record brings in as a file
--   AreHeld bytes rs                     == so does the number of each file in effect
--   MayFollow rs journal end bytes entry == a record may come into effect on top of a history and of the
--                                           journal that the disk holds, which has this end: it has a
--                                           spelling, the folds accept it, the journal has room for it, and a
--                                           file that it brings in has its bytes
--   MayFollowIn w entry                  == so it may in a state
use Rattle.std.specs.Prelude.{◌≡◌, ℕ, ◌+◌, ◌≤◌, IsTrue, List, length, None, Some}
use Rattle.record_defs.specs.Records.{Record, SetUp, PutStart, PutDone, Drop, AuditStart, AuditDone, RepairDone, PutDoneIn, Version, Resume, InEffect, RepairDue, is_in_grammar, record_size, largest_journal}
use Rattle.record_defs.specs.Table.{File, file_of}
use Rattle.record_defs.specs.Acceptance.{refused}
use Rattle.machine_defs.specs.Events.{AreBytes}
use Rattle.machine_defs.specs.States.{State, journal_end}

-- an object number stands for bytes, and for so many
abbrev pub IsHeld : (ℕ → List ℕ) → ℕ → ℕ → Type 0
IsHeld bytes id size = AreBytes (bytes id) × (length (bytes id) ≡ size)

-- a file that a record brings in has its bytes
abbrev pub BringsHeld : (ℕ → List ℕ) → Record → Type 0
BringsHeld bytes (SetUp s) = Unit {0}
BringsHeld bytes (PutStart id name) = Unit {0}
BringsHeld bytes (PutDone id size) = IsHeld bytes id size
BringsHeld bytes (Drop name) = Unit {0}
BringsHeld bytes (AuditStart number) = Unit {0}
BringsHeld bytes (AuditDone number undecided counts) = Unit {0}
BringsHeld bytes (RepairDone number) = Unit {0}
BringsHeld bytes (PutDoneIn id size profile) = IsHeld bytes id size
BringsHeld bytes Version = Unit {0}
BringsHeld bytes (Resume id audit) = Unit {0}
BringsHeld bytes (InEffect id size profile name) = IsHeld bytes id size
BringsHeld bytes (RepairDue number counts) = Unit {0}

-- each file in effect has its bytes
abbrev pub AreHeld : (ℕ → List ℕ) → List Record → Type 0
AreHeld bytes rs =
    (name : List ℕ) (file : File) → file_of rs name ≡ Some file → IsHeld bytes file.id file.size

-- a record may come into effect on top of a history and of the journal that the disk holds
pub record MayFollow (rs journal : List Record) (end : ℕ) (bytes : ℕ → List ℕ) (entry : Record) : Type 0 where
  pub spelled : IsTrue (is_in_grammar entry)
  pub accepted : refused rs entry ≡ None
  pub in_journal : refused journal entry ≡ None
  pub room : end + (1 + record_size entry) ≤ largest_journal
  pub held : BringsHeld bytes entry

-- so it may in a state
abbrev pub MayFollowIn : State → Record → Type 0
MayFollowIn w entry = MayFollow w.records w.journal (journal_end w) w.bytes entry
