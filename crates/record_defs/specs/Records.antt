-- Records as plain data, with the limits of their fields.
--
--   Setup, Record   == the data; names, keys and counts are lists of numbers
--   is_name name    == 1 to 64 bytes, each a letter A to Z or a to z, a digit, a full stop, an underscore or
--                      a dash
--   is_setup s      == every number of a setup is within its limits; of the master key it says nothing
--   is_master key   == 32 bytes
--   is_in_grammar r == each field is within its limits, so that the record has a spelling
--   is_appended r   == a job appends records of this kind; the other kinds come in a packed journal alone
--   record_size r   == how many bytes the record takes, its kind included
--
-- Limits: largest_file (bytes of a file), largest_journal (bytes of a journal), most_files (files in effect).
use Rattle.std.specs.Prelude.{ℕ, ◌+◌, ◌*◌, ◌^◌, ◌==◌, ◌&&◌, ◌||◌, Bool, true, false, List, length, nat_lt, nat_le}
use Rattle.std.specs.List.{list_all}
pub use Rattle.code_defs.specs.Profiles.{all_profiles}

-- what a store is set up with: n providers, l of them primary, b of them bad at most, the numbers of its
-- audits, and the master key
pub record Setup : Type 0 where
  pub n : ℕ
  pub l : ℕ
  pub b : ℕ
  pub profile : ℕ
  pub rounds : ℕ
  pub picks : ℕ
  pub tolerance : ℕ
  pub master : List ℕ

-- A record of the journal. The last five kinds come with its second version: a put's end with a profile,
-- the version itself, and what a packed journal begins with: its next numbers, each file in effect, and the
-- audit whose repair is due.
pub data Record : Type 0 where
  SetUp : (setup : Setup) → Record
  PutStart : (id : ℕ) (name : List ℕ) → Record
  PutDone : (id : ℕ) (size : ℕ) → Record
  Drop : (name : List ℕ) → Record
  AuditStart : (number : ℕ) → Record
  AuditDone : (number undecided : ℕ) (counts : List ℕ) → Record
  RepairDone : (number : ℕ) → Record
  PutDoneIn : (id size profile : ℕ) → Record
  Version : Record
  Resume : (id audit : ℕ) → Record
  InEffect : (id size profile : ℕ) (name : List ℕ) → Record
  RepairDue : (number : ℕ) (counts : List ℕ) → Record

-- the largest length of a file, in bytes
abbrev pub largest_file : ℕ
largest_file = 2 ^ 22

-- the largest length of a journal, in bytes
abbrev pub largest_journal : ℕ
largest_journal = 2 ^ 24

-- how many files can be in effect
abbrev pub most_files : ℕ
most_files = 1024

-- A to Z, a to z, 0 to 9, full stop, underscore or dash
abbrev pub is_name_byte : ℕ → Bool
is_name_byte b =
    (nat_le 65 b && nat_le b 90) || (nat_le 97 b && nat_le b 122) || (nat_le 48 b && nat_le b 57)
    || (b == 46) || (b == 95) || (b == 45)

-- a name has 1 to 64 such bytes
abbrev pub is_name : List ℕ → Bool
is_name name = nat_le 1 (length name) && nat_le (length name) 64 && list_all is_name_byte name

-- a number is one byte
abbrev pub is_byte : ℕ → Bool
is_byte b = nat_lt b 256

-- every number of a setup is within its limits
abbrev pub is_setup : Setup → Bool
is_setup s =
    nat_le 4 s.n && nat_le s.n 16 && nat_le 1 s.l && nat_le 1 s.b && nat_le (s.l + 2 * s.b + 1) s.n
    && nat_lt s.profile all_profiles
    && nat_le 1 s.rounds && nat_le s.rounds 64 && nat_le 1 s.picks && nat_le s.picks 64
    && nat_le s.tolerance 4096

-- a master key has 32 bytes
abbrev pub is_master : List ℕ → Bool
is_master key = (length key == 32) && list_all is_byte key

-- 4 to 16 counts of four bytes each
abbrev pub are_counts : List ℕ → Bool
are_counts counts =
    nat_le 4 (length counts) && nat_le (length counts) 16
    && list_all (λ count. nat_lt count (2 ^ 32)) counts

-- each field of a record is within its limits, so that the record has a spelling
abbrev pub is_in_grammar : Record → Bool
is_in_grammar (SetUp s) = is_setup s && is_master s.master
is_in_grammar (PutStart id name) = nat_lt id (2 ^ 64) && is_name name
is_in_grammar (PutDone id size) = nat_lt id (2 ^ 64) && nat_le size largest_file
is_in_grammar (Drop name) = is_name name
is_in_grammar (AuditStart number) = nat_lt number (2 ^ 64)
is_in_grammar (AuditDone number undecided counts) =
    nat_lt number (2 ^ 64) && nat_lt undecided (2 ^ 32) && nat_le 4 (length counts)
    && nat_le (length counts) 16
    && list_all (λ count. nat_lt count (2 ^ 32)) counts
is_in_grammar (RepairDone number) = nat_lt number (2 ^ 64)
is_in_grammar (PutDoneIn id size profile) =
    nat_lt id (2 ^ 64) && nat_le size largest_file && nat_lt profile all_profiles
is_in_grammar Version = true
is_in_grammar (Resume id audit) = nat_lt id (2 ^ 64) && nat_lt audit (2 ^ 64)
is_in_grammar (InEffect id size profile name) =
    nat_lt id (2 ^ 64) && nat_le size largest_file && nat_lt profile all_profiles && is_name name
is_in_grammar (RepairDue number counts) = nat_lt number (2 ^ 64) && are_counts counts

-- whether a job appends records of this kind; the others come in a packed journal alone
abbrev pub is_appended : Record → Bool
is_appended (SetUp s) = true
is_appended (PutStart id name) = true
is_appended (PutDone id size) = true
is_appended (Drop name) = true
is_appended (AuditStart number) = true
is_appended (AuditDone number undecided counts) = true
is_appended (RepairDone number) = true
is_appended (PutDoneIn id size profile) = true
is_appended Version = true
is_appended (Resume id audit) = false
is_appended (InEffect id size profile name) = false
is_appended (RepairDue number counts) = false

-- how many bytes a record takes
abbrev pub record_size : Record → ℕ
record_size (SetUp s) = 41
record_size (PutStart id name) = 10 + length name
record_size (PutDone id size) = 13
record_size (Drop name) = 2 + length name
record_size (AuditStart number) = 9
record_size (AuditDone number undecided counts) = 14 + 4 * length counts
record_size (RepairDone number) = 9
record_size (PutDoneIn id size profile) = 14
record_size Version = 2
record_size (Resume id audit) = 17
record_size (InEffect id size profile name) = 15 + length name
record_size (RepairDue number counts) = 10 + 4 * length counts
