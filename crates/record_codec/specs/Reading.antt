-- Reading a record from left to right: its plain data and what stands behind it; None where no record
-- stands at the front.
use Rattle.std.specs.Prelude.{ℕ, ◌&&◌, List, [], ◌∷◌, length, take, drop, Option, Some, None, nat_lt, nat_le, ◌==◌, if◌then◌else◌}
use Rattle.std.specs.Int.{Width, w16, w32, w64, byte_len, from_le_bytes}
use Rattle.std.proofs.Common.{zero, suc}
use Rattle.record_defs.specs.Records.{Setup, Record, SetUp, PutStart, PutDone, Drop, AuditStart, AuditDone, RepairDone, PutDoneIn, Version, Resume, InEffect, RepairDue, is_name, is_setup, largest_file}

infixl 10 ◌>>=◌
-- a step that reads on where the one before found something
abbrev pub ◌>>=◌ : {A B : Type 0} → Option A → (A → Option B) → Option B
None >>= f = None
(Some x) >>= f = f x

-- a number of so many bytes
abbrev pub number_at : Width → List ℕ → Option (ℕ × List ℕ)
number_at w bytes =
    if nat_lt (length bytes) (byte_len w) then None
    else Some (from_le_bytes w (take (byte_len w) bytes), drop (byte_len w) bytes)

-- a name behind its length
unfoldable pub name_at : List ℕ → Option (List ℕ × List ℕ)
name_at [] = None
name_at (n ∷ rest) =
    if nat_lt (length rest) n then None
    else (if is_name (take n rest) then Some (take n rest, drop n rest) else None)

-- the master key behind the numbers of a setup
unfoldable pub keyed_at : Setup → List ℕ → Option (Record × List ℕ)
keyed_at s rest =
    if is_setup s then (if nat_lt (length rest) 32 then None
    else Some (SetUp (record s { master = take 32 rest }), drop 32 rest)) else None

-- a setup with its master key
unfoldable pub setup_at : List ℕ → Option (Record × List ℕ)
setup_at (n ∷ l ∷ b ∷ profile ∷ rounds ∷ picks ∷ low ∷ high ∷ rest) =
    keyed_at (record {
      n = n;
      l = l;
      b = b;
      profile = profile;
      rounds = rounds;
      picks = picks;
      tolerance = from_le_bytes w16 (low ∷ high ∷ []);
      master = [];
    }) rest
setup_at bytes = None

-- the start of a put: its object number and its name
unfoldable pub put_start_at : List ℕ → Option (Record × List ℕ)
put_start_at bytes = do
  id ← number_at w64 bytes
  name ← name_at id.1
  Some (PutStart id.0 name.0, name.1)

-- the end of a put: its object number and the length of its file
unfoldable pub put_done_at : List ℕ → Option (Record × List ℕ)
put_done_at bytes = do
  id ← number_at w64 bytes
  len ← number_at w32 id.1
  if nat_le len.0 largest_file then Some (PutDone id.0 len.0, len.1) else None

-- a drop: the name
unfoldable pub drop_at : List ℕ → Option (Record × List ℕ)
drop_at bytes = do
  name ← name_at bytes
  Some (Drop name.0, name.1)

-- the start of an audit: its number
unfoldable pub audit_start_at : List ℕ → Option (Record × List ℕ)
audit_start_at bytes = do
  number ← number_at w64 bytes
  Some (AuditStart number.0, number.1)

-- the end of a repair: the number of its audit
unfoldable pub repair_done_at : List ℕ → Option (Record × List ℕ)
repair_done_at bytes = do
  number ← number_at w64 bytes
  Some (RepairDone number.0, number.1)

-- so many numbers of four bytes
unfoldable pub numbers_at : ℕ → List ℕ → Option (List ℕ × List ℕ)
numbers_at zero bytes = Some ([], bytes)
numbers_at (suc n) bytes = do
  first ← number_at w32 bytes
  others ← numbers_at n first.1
  Some (first.0 ∷ others.0, others.1)

-- 4 to 16 numbers behind how many they are
unfoldable pub counts_at : List ℕ → Option (List ℕ × List ℕ)
counts_at [] = None
counts_at (n ∷ rest) = if nat_le 4 n && nat_le n 16 then numbers_at n rest else None

-- the end of an audit: its number, how many rounds were undecided, and the counts
unfoldable pub audit_done_at : List ℕ → Option (Record × List ℕ)
audit_done_at bytes = do
  number ← number_at w64 bytes
  undecided ← number_at w32 number.1
  counts ← counts_at undecided.1
  Some (AuditDone number.0 undecided.0 counts.0, counts.1)

-- the number of a profile
unfoldable pub profile_at : List ℕ → Option (ℕ × List ℕ)
profile_at [] = None
profile_at (p ∷ rest) = if nat_lt p 5 then Some (p, rest) else None

-- an object of a file: its number, the length of the file and its profile
unfoldable pub object_at : List ℕ → Option ((ℕ × ℕ × ℕ) × List ℕ)
object_at bytes = do
  id ← number_at w64 bytes
  size ← number_at w32 id.1
  profile ← profile_at size.1
  if nat_le size.0 largest_file then Some ((id.0, size.0, profile.0), profile.1) else None

-- the end of a put with its profile
unfoldable pub put_done_in_at : List ℕ → Option (Record × List ℕ)
put_done_in_at bytes = do
  o ← object_at bytes
  Some (PutDoneIn o.0.0 o.0.1 o.0.2, o.1)

-- the second version
unfoldable pub version_at : List ℕ → Option (Record × List ℕ)
version_at [] = None
version_at (v ∷ rest) = if v == 2 then Some (Version, rest) else None

-- the next numbers of a packed journal
unfoldable pub resume_at : List ℕ → Option (Record × List ℕ)
resume_at bytes = do
  id ← number_at w64 bytes
  audit ← number_at w64 id.1
  Some (Resume id.0 audit.0, audit.1)

-- a file of a packed journal
unfoldable pub in_effect_at : List ℕ → Option (Record × List ℕ)
in_effect_at bytes = do
  o ← object_at bytes
  name ← name_at o.1
  Some (InEffect o.0.0 o.0.1 o.0.2 name.0, name.1)

-- the due audit of a packed journal
unfoldable pub repair_due_at : List ℕ → Option (Record × List ℕ)
repair_due_at bytes = do
  number ← number_at w64 bytes
  counts ← counts_at number.1
  Some (RepairDue number.0 counts.0, counts.1)

-- a record behind its kind
unfoldable pub record_at : List ℕ → Option (Record × List ℕ)
record_at [] = None
record_at (kind ∷ rest) =
    if kind == 1 then setup_at rest else (if kind == 2 then put_start_at rest else
    (if kind == 3 then put_done_at rest else (
    if kind == 4 then drop_at rest else (if kind == 5 then audit_start_at rest else
    (if kind == 6 then audit_done_at rest else (
    if kind == 7 then repair_done_at rest
    else (if kind == 8 then put_done_in_at rest else (if kind == 9 then version_at rest else (
    if kind == 10 then resume_at rest
    else (if kind == 11 then in_effect_at rest
    else (if kind == 12 then repair_due_at rest else None)))))))))))
