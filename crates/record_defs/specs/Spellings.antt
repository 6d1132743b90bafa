-- The one spelling of each record.
use Rattle.std.specs.Prelude.{◌≡◌, ℕ, IsTrue, List, [], ◌∷◌, ◌++◌, length}
use Rattle.std.specs.Int.{w16, w32, w64, to_le_bytes}
use Rattle.std.specs.List.{flat_map}
use Rattle.record_defs.specs.Records.{Setup, Record, SetUp, PutStart, PutDone, Drop, AuditStart, AuditDone, RepairDone, PutDoneIn, Version, Resume, InEffect, RepairDue, is_in_grammar}

-- the fields of a setup, one byte each but for the last two
abbrev pub setup_bytes : Setup → List ℕ
setup_bytes s = s.n ∷ s.l ∷ s.b ∷ s.profile ∷ s.rounds ∷ s.picks ∷ (to_le_bytes w16 s.tolerance ++ s.master)

-- a name after its length
abbrev pub name_bytes : List ℕ → List ℕ
name_bytes name = length name ∷ name

-- counts after their number
abbrev pub counts_bytes : List ℕ → List ℕ
counts_bytes counts = length counts ∷ flat_map (to_le_bytes w32) counts

-- the bytes of a record: its kind, then its fields
unfoldable pub spelling : Record → List ℕ
spelling (SetUp s) = 1 ∷ setup_bytes s
spelling (PutStart id name) = 2 ∷ to_le_bytes w64 id ++ name_bytes name
spelling (PutDone id size) = 3 ∷ to_le_bytes w64 id ++ to_le_bytes w32 size
spelling (Drop name) = 4 ∷ name_bytes name
spelling (AuditStart number) = 5 ∷ to_le_bytes w64 number
spelling (AuditDone number undecided counts) =
    6 ∷ to_le_bytes w64 number ++ to_le_bytes w32 undecided ++ counts_bytes counts
spelling (RepairDone number) = 7 ∷ to_le_bytes w64 number
spelling (PutDoneIn id size profile) = 8 ∷ to_le_bytes w64 id ++ to_le_bytes w32 size ++ profile ∷ []
spelling Version = 9 ∷ 2 ∷ []
spelling (Resume id audit) = 10 ∷ to_le_bytes w64 id ++ to_le_bytes w64 audit
spelling (InEffect id size profile name) =
    11 ∷ to_le_bytes w64 id ++ to_le_bytes w32 size ++ profile ∷ name_bytes name
spelling (RepairDue number counts) = 12 ∷ to_le_bytes w64 number ++ counts_bytes counts

-- bytes spell a record of the grammar
pub record Spells (bytes : List ℕ) (r : Record) : Type 0 where
  pub in_grammar : IsTrue (is_in_grammar r)
  pub bytes_are : bytes ≡ spelling r

-- no record is spelled at the front of bytes
abbrev pub SpellsNone : List ℕ → Type 0
SpellsNone bytes = (r : Record) (front rest : List ℕ) → Spells front r → bytes ≡ front ++ rest → ⊥
