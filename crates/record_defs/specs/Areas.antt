-- The two areas of a disk, of which one holds the journal. Offsets are bytes from the start of the disk.
--
--   Area                       == A, whose text begins at 8, or B, whose text begins at 8,388,608
--   area_of switch             == B where byte 7 of the disk is the digit 2, and A for any other value
--   IsSwitched bytes area      == the disk begins with HAILJRN and a byte that names this area
--   entries rs                 == each record after an open gate, without a closing one
--   entries_size rs            == how many bytes these are
--   end_in area rs             == the offset past the gate that closes the text of records in an area
--   text_length area rs        == the length of that text: in A counted from the start of the disk, in B from
--                                 where the area begins
--   HoldsIn bytes area rs      == the area's text is that of records, with any closed gate, and then any
--                                 bytes
--   StandsActive bytes area rs == bytes stand for records: this area is active, and holds them
--   IsBadAt bytes at           == the first place at which bytes fail to be a journal of two areas
use Rattle.std.specs.Prelude.{◌≡◌, ◌≢◌, ◌⊎◌, ℕ, ◌+◌, ◌==◌, ◌^◌, IsTrue, List, [], ◌∷◌, ◌++◌, length, take, drop, if◌then◌else◌}
use Rattle.std.specs.List.{list_all}
use Rattle.record_defs.specs.Records.{Record, record_size, is_in_grammar}
use Rattle.record_defs.specs.Spellings.{spelling, SpellsNone}

-- the half of a disk that a journal stands in
pub data Area : Type 0 where
  A : Area
  B : Area

-- the other half
abbrev pub other_area : Area → Area
other_area A = B
other_area B = A

-- where the text of an area begins
abbrev pub base_of : Area → ℕ
base_of A = 8
base_of B = 2 ^ 23

-- HAILJRN, with which every disk begins that holds a journal
abbrev pub magic_front : List ℕ
magic_front = 72 ∷ 65 ∷ 73 ∷ 76 ∷ 74 ∷ 82 ∷ 78 ∷ []

-- the byte that names an area: the digits 1 and 2
abbrev pub switch_of : Area → ℕ
switch_of A = 49
switch_of B = 50

-- the area that a switch byte names
abbrev pub area_of : ℕ → Area
area_of switch = if switch == 50 then B else A

-- the disk begins with HAILJRN, and its switch byte names an area
pub record IsSwitched (bytes : List ℕ) (area : Area) : Type 0 where
  pub switch : ℕ
  pub front : take 8 bytes ≡ magic_front ++ switch ∷ []
  pub names : area_of switch ≡ area

-- each record after an open gate
abbrev pub entries : List Record → List ℕ
entries [] = []
entries (r ∷ rs) = entries rs ++ 1 ∷ spelling r

-- how many bytes these are
abbrev pub entries_size : List Record → ℕ
entries_size [] = 0
entries_size (r ∷ rs) = entries_size rs + (1 + record_size r)

-- the offset past the gate that closes a text
abbrev pub end_in : Area → List Record → ℕ
end_in area rs = base_of area + entries_size rs + 1

-- the length of a text
abbrev pub text_length : Area → List Record → ℕ
text_length A rs = 9 + entries_size rs
text_length B rs = 1 + entries_size rs

-- an area holds the text of records
pub record HoldsIn (bytes : List ℕ) (area : Area) (rs : List Record) : Type 0 where
  pub in_grammar : IsTrue (list_all is_in_grammar rs)
  pub gate : ℕ
  pub rest : List ℕ
  pub closed : gate ≢ 1
  pub bytes_are : drop (base_of area) bytes ≡ entries rs ++ gate ∷ rest

-- bytes stand for records in the active area
pub record StandsActive (bytes : List ℕ) (area : Area) (rs : List Record) : Type 0 where
  pub active : IsSwitched bytes area
  pub holds : HoldsIn bytes area rs

-- the bytes of an area end where a gate is due
pub record EndsIn (bytes : List ℕ) (area : Area) (at : ℕ) : Type 0 where
  pub records : List Record
  pub in_grammar : IsTrue (list_all is_in_grammar records)
  pub bytes_are : drop (base_of area) bytes ≡ entries records
  pub place : at ≡ base_of area + length (entries records)

-- no record stands after an open gate of an area
pub record BreaksIn (bytes : List ℕ) (area : Area) (at : ℕ) : Type 0 where
  pub records : List Record
  pub rest : List ℕ
  pub in_grammar : IsTrue (list_all is_in_grammar records)
  pub bytes_are : drop (base_of area) bytes ≡ entries records ++ 1 ∷ rest
  pub none : SpellsNone rest
  pub place : at ≡ base_of area + length (entries records) + 1

-- the first place at which the active area fails to be a text
pub record FailsIn (bytes : List ℕ) (at : ℕ) : Type 0 where
  pub area : Area
  pub active : IsSwitched bytes area
  pub fails : EndsIn bytes area at ⊎ BreaksIn bytes area at

-- the first seven bytes are not HAILJRN, or there is no eighth
abbrev pub HasNoFront : List ℕ → Type 0
HasNoFront bytes = (switch : ℕ) → take 8 bytes ≡ magic_front ++ switch ∷ [] → ⊥

-- the first place at which bytes fail to be a journal: at 0 where the first seven bytes are wrong or there
-- is no eighth
abbrev pub IsBadAt : List ℕ → ℕ → Type 0
IsBadAt bytes at = (HasNoFront bytes × (at ≡ 0)) ⊎ FailsIn bytes at
