-- What a list of records folds to. Each value is read off the list from its newest record, which is the
-- first. Each kind of record is spelled out, so that a new kind has to be thought of.
--
--   setup_of rs          == the setup, if there is one
--   version_of rs        == the version of the journal: 1 or 2
--   next_id rs           == the number that the next put takes: one past that of the last start, or what a
--                           Resume says
--   next_audit rs        == the number that the next audit takes, in the same way
--   started_as rs id     == the name under which a put was started and is not done
--   file_of rs name      == the file in effect under a name
--   files_of rs          == all files in effect, in byte order of their names
--   find_file files name == the file of a name among files; None where there is none
--   running_audit rs     == the number of the audit that was started last and is not done
--   due_of rs            == the audit whose repair is due, with its counts
--
-- A byte order of names: `is_name_before`, where a name comes before those that it begins. `are_ordered`
-- asks it of each file and all behind it.
use Rattle.std.specs.Prelude.{ℕ, suc, ◌==◌, ◌&&◌, Bool, true, false, List, [], ◌∷◌, Option, None, Some, nat_lt, if◌then◌else◌}
use Rattle.std.specs.List.{list_all, list_any}
use Rattle.record_defs.specs.Records.{Setup, Record, SetUp, PutStart, PutDone, Drop, AuditStart, AuditDone, RepairDone, PutDoneIn, Version, Resume, InEffect, RepairDue}

-- a file in effect: its name, its object number, its length and its profile
pub record File : Type 0 where
  pub name : List ℕ
  pub id : ℕ
  pub size : ℕ
  pub profile : ℕ

-- an audit whose repair is due, with its counts
pub record Due : Type 0 where
  pub number : ℕ
  pub counts : List ℕ

-- the setup
abbrev pub setup_of : List Record → Option Setup
setup_of [] = None
setup_of (SetUp s ∷ rs) = Some s
setup_of (PutStart id name ∷ rs) = setup_of rs
setup_of (PutDone id size ∷ rs) = setup_of rs
setup_of (Drop name ∷ rs) = setup_of rs
setup_of (AuditStart number ∷ rs) = setup_of rs
setup_of (AuditDone number undecided counts ∷ rs) = setup_of rs
setup_of (RepairDone number ∷ rs) = setup_of rs
setup_of (PutDoneIn id size profile ∷ rs) = setup_of rs
setup_of (Version ∷ rs) = setup_of rs
setup_of (Resume id audit ∷ rs) = setup_of rs
setup_of (InEffect id size profile name ∷ rs) = setup_of rs
setup_of (RepairDue number counts ∷ rs) = setup_of rs

-- the version of the journal: 1, and 2 from its Version on
abbrev pub version_of : List Record → ℕ
version_of [] = 1
version_of (SetUp s ∷ rs) = version_of rs
version_of (PutStart id name ∷ rs) = version_of rs
version_of (PutDone id size ∷ rs) = version_of rs
version_of (Drop name ∷ rs) = version_of rs
version_of (AuditStart number ∷ rs) = version_of rs
version_of (AuditDone number undecided counts ∷ rs) = version_of rs
version_of (RepairDone number ∷ rs) = version_of rs
version_of (PutDoneIn id size profile ∷ rs) = version_of rs
version_of (Version ∷ rs) = 2
version_of (Resume id audit ∷ rs) = version_of rs
version_of (InEffect id size profile name ∷ rs) = version_of rs
version_of (RepairDue number counts ∷ rs) = version_of rs

-- the profile of a setup; 0 where there is none
abbrev pub profile_in : Option Setup → ℕ
profile_in None = 0
profile_in (Some s) = s.profile

-- the next object number
abbrev pub next_id : List Record → ℕ
next_id [] = 1
next_id (SetUp s ∷ rs) = next_id rs
next_id (PutStart id name ∷ rs) = suc (next_id rs)
next_id (PutDone id size ∷ rs) = next_id rs
next_id (Drop name ∷ rs) = next_id rs
next_id (AuditStart number ∷ rs) = next_id rs
next_id (AuditDone number undecided counts ∷ rs) = next_id rs
next_id (RepairDone number ∷ rs) = next_id rs
next_id (PutDoneIn id size profile ∷ rs) = next_id rs
next_id (Version ∷ rs) = next_id rs
next_id (Resume id audit ∷ rs) = id
next_id (InEffect id size profile name ∷ rs) = next_id rs
next_id (RepairDue number counts ∷ rs) = next_id rs

-- the next audit number
abbrev pub next_audit : List Record → ℕ
next_audit [] = 1
next_audit (SetUp s ∷ rs) = next_audit rs
next_audit (PutStart id name ∷ rs) = next_audit rs
next_audit (PutDone id size ∷ rs) = next_audit rs
next_audit (Drop name ∷ rs) = next_audit rs
next_audit (AuditStart number ∷ rs) = suc (next_audit rs)
next_audit (AuditDone number undecided counts ∷ rs) = next_audit rs
next_audit (RepairDone number ∷ rs) = next_audit rs
next_audit (PutDoneIn id size profile ∷ rs) = next_audit rs
next_audit (Version ∷ rs) = next_audit rs
next_audit (Resume id audit ∷ rs) = audit
next_audit (InEffect id size profile name ∷ rs) = next_audit rs
next_audit (RepairDue number counts ∷ rs) = next_audit rs

-- the name under which an object number is started and not done
abbrev pub started_as : List Record → ℕ → Option (List ℕ)
started_as [] id = None
started_as (SetUp s ∷ rs) id = started_as rs id
started_as (PutStart k name ∷ rs) id = if k == id then Some name else started_as rs id
started_as (PutDone k size ∷ rs) id = if k == id then None else started_as rs id
started_as (Drop name ∷ rs) id = started_as rs id
started_as (AuditStart number ∷ rs) id = started_as rs id
started_as (AuditDone number undecided counts ∷ rs) id = started_as rs id
started_as (RepairDone number ∷ rs) id = started_as rs id
started_as (PutDoneIn k size profile ∷ rs) id = if k == id then None else started_as rs id
started_as (Version ∷ rs) id = started_as rs id
started_as (Resume next audit ∷ rs) id = started_as rs id
started_as (InEffect k size profile name ∷ rs) id = started_as rs id
started_as (RepairDue number counts ∷ rs) id = started_as rs id

-- two names are equal
abbrev pub is_same_name : List ℕ → List ℕ → Bool
is_same_name [] [] = true
is_same_name (a ∷ as_) (b ∷ bs) = if a == b then is_same_name as_ bs else false
is_same_name as_ bs = false

-- a name comes before another in byte order; a name that begins another comes before it
abbrev pub is_name_before : List ℕ → List ℕ → Bool
is_name_before [] [] = false
is_name_before [] (b ∷ bs) = true
is_name_before (a ∷ as_) [] = false
is_name_before (a ∷ as_) (b ∷ bs) = if a == b then is_name_before as_ bs else nat_lt a b

-- a put that was started under this name
abbrev pub is_start_of : List ℕ → Option (List ℕ) → Bool
is_start_of name None = false
is_start_of name (Some started) = is_same_name started name

-- a file of these parts
abbrev pub file_as : List ℕ → ℕ → ℕ → ℕ → File
file_as name id size profile = record { name = name; id = id; size = size; profile = profile }

-- the file in effect under a name: that of the last record that brought one in under it, unless a later
-- Drop took it out
abbrev pub file_of : List Record → List ℕ → Option File
file_of [] name = None
file_of (SetUp s ∷ rs) name = file_of rs name
file_of (PutStart id started ∷ rs) name = file_of rs name
file_of (PutDone id size ∷ rs) name =
    if is_start_of name (started_as rs id) then Some (file_as name id size (profile_in (setup_of rs)))
    else file_of rs name
file_of (Drop dropped ∷ rs) name = if is_same_name dropped name then None else file_of rs name
file_of (AuditStart number ∷ rs) name = file_of rs name
file_of (AuditDone number undecided counts ∷ rs) name = file_of rs name
file_of (RepairDone number ∷ rs) name = file_of rs name
file_of (PutDoneIn id size profile ∷ rs) name =
    if is_start_of name (started_as rs id) then Some (file_as name id size profile) else file_of rs name
file_of (Version ∷ rs) name = file_of rs name
file_of (Resume id audit ∷ rs) name = file_of rs name
file_of (InEffect id size profile kept ∷ rs) name =
    if is_same_name kept name then Some (file_as name id size profile) else file_of rs name
file_of (RepairDue number counts ∷ rs) name = file_of rs name

-- files in byte order of their names, without that of a name
abbrev pub without_file : List File → List ℕ → List File
without_file [] name = []
without_file (f ∷ fs) name =
    if is_same_name f.name name then without_file fs name else f ∷ without_file fs name

-- files in byte order of their names, with one more in its place
abbrev pub with_file : List File → File → List File
with_file [] file = file ∷ []
with_file (f ∷ fs) file = if is_name_before f.name file.name then f ∷ with_file fs file else file ∷ f ∷ fs

-- files with the one that a put brings in, in place of an older one of its name
abbrev pub with_put : List File → Option (List ℕ) → ℕ → ℕ → ℕ → List File
with_put files None id size profile = files
with_put files (Some name) id size profile =
    with_file (without_file files name) (file_as name id size profile)

-- all files in effect, in byte order of their names
abbrev pub files_of : List Record → List File
files_of [] = []
files_of (SetUp s ∷ rs) = files_of rs
files_of (PutStart id name ∷ rs) = files_of rs
files_of (PutDone id size ∷ rs) = with_put (files_of rs) (started_as rs id) id size (profile_in (setup_of rs))
files_of (Drop name ∷ rs) = without_file (files_of rs) name
files_of (AuditStart number ∷ rs) = files_of rs
files_of (AuditDone number undecided counts ∷ rs) = files_of rs
files_of (RepairDone number ∷ rs) = files_of rs
files_of (PutDoneIn id size profile ∷ rs) = with_put (files_of rs) (started_as rs id) id size profile
files_of (Version ∷ rs) = files_of rs
files_of (Resume id audit ∷ rs) = files_of rs
files_of (InEffect id size profile name ∷ rs) = with_put (files_of rs) (Some name) id size profile
files_of (RepairDue number counts ∷ rs) = files_of rs

-- each file's name comes before those of all files behind it
abbrev pub are_ordered : List File → Bool
are_ordered [] = true
are_ordered (f ∷ fs) = list_all (λ g. is_name_before f.name g.name) fs && are_ordered fs

-- the file of a name among files
abbrev pub find_file : List File → List ℕ → Option File
find_file [] name = None
find_file (f ∷ fs) name = if is_same_name f.name name then Some f else find_file fs name

-- the number of the running audit
abbrev pub running_audit : List Record → Option ℕ
running_audit [] = None
running_audit (SetUp s ∷ rs) = running_audit rs
running_audit (PutStart id name ∷ rs) = running_audit rs
running_audit (PutDone id size ∷ rs) = running_audit rs
running_audit (Drop name ∷ rs) = running_audit rs
running_audit (AuditStart number ∷ rs) = Some number
running_audit (AuditDone number undecided counts ∷ rs) = None
running_audit (RepairDone number ∷ rs) = running_audit rs
running_audit (PutDoneIn id size profile ∷ rs) = running_audit rs
running_audit (Version ∷ rs) = running_audit rs
running_audit (Resume id audit ∷ rs) = running_audit rs
running_audit (InEffect id size profile name ∷ rs) = running_audit rs
running_audit (RepairDue number counts ∷ rs) = running_audit rs

-- some count exceeds the tolerance of the setup
abbrev pub exceeds : Option Setup → List ℕ → Bool
exceeds None counts = false
exceeds (Some s) counts = list_any (λ count. nat_lt s.tolerance count) counts

-- the audit whose repair is due
abbrev pub due_of : List Record → Option Due
due_of [] = None
due_of (SetUp s ∷ rs) = due_of rs
due_of (PutStart id name ∷ rs) = due_of rs
due_of (PutDone id size ∷ rs) = due_of rs
due_of (Drop name ∷ rs) = due_of rs
due_of (AuditStart number ∷ rs) = due_of rs
due_of (AuditDone number undecided counts ∷ rs) =
    if exceeds (setup_of rs) counts then Some (record { number = number; counts = counts }) else due_of rs
due_of (RepairDone number ∷ rs) = None
due_of (PutDoneIn id size profile ∷ rs) = due_of rs
due_of (Version ∷ rs) = due_of rs
due_of (Resume id audit ∷ rs) = due_of rs
due_of (InEffect id size profile name ∷ rs) = due_of rs
due_of (RepairDue number counts ∷ rs) = Some (record { number = number; counts = counts })
