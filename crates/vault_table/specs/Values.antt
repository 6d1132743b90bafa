-- What a table keeps, as plain data.
use Rattle.std.specs.Prelude.{◌≡◌, ℕ, zero, suc, ◌+◌, ◌-◌, ◌^◌, ◌==◌, ◌&&◌, ◌||◌, Bool, not, List, [], ◌∷◌, ◌++◌, length, Option, None, Some, is_some, nat_le, slice_set, if◌then◌else◌}
use Rattle.record_defs.specs.Records.{Setup, Record, SetUp, PutStart, PutDone, Drop, AuditStart, AuditDone, RepairDone, PutDoneIn, Version, Resume, InEffect, RepairDue, most_files}
use Rattle.record_defs.specs.Table.{File, Due, setup_of, version_of, profile_in, next_id, next_audit, started_as, files_of, find_file, with_put, without_file, running_audit, due_of, exceeds}
use Rattle.record_defs.specs.Acceptance.{Refused, NoSetup, SecondSetup, BadId, NotStarted, TooMany, NoName, BadAudit, NoRepair, OldKind, OldVersion, NewVersion, BadResume, NameTwice, is_running, is_due, is_count_each, is_file_id}
use Rattle.record_codec.specs.declared.setup.Setup.{Setup as SetupValue}
use Rattle.record_codec.specs.declared.counts.Counts.{Counts}
use Rattle.key_schedule.specs.declared.master.Master.{Master}
use Rattle.record_codec.specs.Entries.{with_master, counted}
use Rattle.vault_table.specs.declared.entry.Entry.{Entry}

-- the plain data of a file in effect
abbrev pub file_of_entry : Entry → File
file_of_entry e = record { name = e.name; id = e.id; size = e.length; profile = e.profile }

-- the plain data of a setup and its master key
abbrev pub setup_of_pair : SetupValue × Master → Setup
setup_of_pair x = with_master x.0 x.1.0

-- the plain data of a due audit
abbrev pub due_of_pair : ℕ × Counts → Due
due_of_pair x = record { number = x.0; counts = counted x.1 }

-- What a table keeps. Ids up to `passed` are those of no started put; the started puts stand behind it in
-- the order of their ids, and a put that is done leaves None there.
pub record Kept : Type 0 where
  pub setup : Option Setup
  pub version : ℕ
  pub files : List File
  pub passed : ℕ
  pub started : List (Option (List ℕ))
  pub next_audit : ℕ
  pub running : Option ℕ
  pub due : Option Due
  pub spare : ℕ

-- the name of a started put that is not done, from the first place on
abbrev pub started_from : List (Option (List ℕ)) → ℕ → Option (List ℕ)
started_from [] k = None
started_from (s ∷ started) zero = s
started_from (s ∷ started) (suc k) = started_from started k

-- the name of a started put that is not done
abbrev pub started_at : Kept → ℕ → Option (List ℕ)
started_at t id = if nat_le id t.passed then None else started_from t.started (id - suc t.passed)

-- the next id
abbrev pub id_after : Kept → ℕ
id_after t = suc (t.passed + length t.started)

-- A table stands for the fold of records, the newest first.
pub record IsFoldOf (rs : List Record) (t : Kept) : Type 0 where
  pub setup : t.setup ≡ setup_of rs
  pub version : t.version ≡ version_of rs
  pub files : t.files ≡ files_of rs
  pub started : (id : ℕ) → started_at t id ≡ started_as rs id
  pub id : id_after t ≡ next_id rs
  pub audit : t.next_audit ≡ next_audit rs
  pub running : t.running ≡ running_audit rs
  pub due : t.due ≡ due_of rs

-- a table without its started puts and its running audit; the next numbers stay
abbrev pub forgotten : Kept → Kept
forgotten t = record t { passed = t.passed + length t.started; started = []; running = None }

-- no further name fits in beside the files
abbrev pub is_full_without : List File → List ℕ → Bool
is_full_without files name = nat_le most_files (length files) && not (is_some (find_file files name))

-- why a put may not be done, by the name under which it was started
abbrev pub put_done_refusal : Kept → Option (List ℕ) → Option Refused
put_done_refusal t None = Some NotStarted
put_done_refusal t (Some name) = if is_full_without t.files name then Some TooMany else None

-- why a packed journal's file is refused
abbrev pub in_effect_refusal : Kept → ℕ → List ℕ → Option Refused
in_effect_refusal t id name =
    if (id == 0) || nat_le (id_after t) id || is_file_id t.files id || is_some (started_at t id)
    then Some BadId
    else (if is_some (find_file t.files name) then Some NameTwice
    else (if is_full_without t.files name then Some TooMany else None))

-- why a packed journal's due audit is refused
abbrev pub repair_due_refusal : Kept → ℕ → List ℕ → Option Refused
repair_due_refusal t number counts =
    if (number == 0) || nat_le t.next_audit number || is_some t.due
    || not (is_count_each (length counts) t.setup) || not (exceeds t.setup counts)
    then Some BadAudit else None

-- why a packed journal's next numbers are refused
abbrev pub resume_refusal : Kept → ℕ → ℕ → Option Refused
resume_refusal t id audit =
    if (t.version == 1) || not (id_after t == 1) || not (t.next_audit == 1)
    || (id == 0) || nat_le (2 ^ 64) id || (audit == 0) || nat_le (2 ^ 64) audit
    then Some BadResume else None

-- why a table with a setup refuses a record
abbrev pub refusal_after : Kept → Record → Option Refused
refusal_after t (SetUp s) = Some SecondSetup
refusal_after t (PutStart id name) = if not (id == id_after t) || (id == 2 ^ 64 - 1) then Some BadId else None
refusal_after t (PutDone id size) =
    if t.version == 2 then Some OldKind else put_done_refusal t (started_at t id)
refusal_after t (Drop name) = if is_some (find_file t.files name) then None else Some NoName
refusal_after t (AuditStart number) =
    if not (number == t.next_audit) || (number == 2 ^ 64 - 1) || is_some t.due then Some BadAudit else None
refusal_after t (AuditDone number undecided counts) =
    if is_running number t.running && is_count_each (length counts) t.setup then None else Some BadAudit
refusal_after t (RepairDone number) = if is_due number t.due then None else Some NoRepair
refusal_after t (PutDoneIn id size profile) =
    if t.version == 1 then Some OldVersion else put_done_refusal t (started_at t id)
refusal_after t Version = if t.version == 2 then Some NewVersion else None
refusal_after t (Resume id audit) = resume_refusal t id audit
refusal_after t (InEffect id size profile name) =
    if t.version == 1 then Some OldVersion else in_effect_refusal t id name
refusal_after t (RepairDue number counts) =
    if t.version == 1 then Some OldVersion else repair_due_refusal t number counts

-- why a table without a setup refuses a record
abbrev pub refusal_before : Record → Option Refused
refusal_before (SetUp s) = None
refusal_before (PutStart id name) = Some NoSetup
refusal_before (PutDone id size) = Some NoSetup
refusal_before (Drop name) = Some NoSetup
refusal_before (AuditStart number) = Some NoSetup
refusal_before (AuditDone number undecided counts) = Some NoSetup
refusal_before (RepairDone number) = Some NoSetup
refusal_before (PutDoneIn id size profile) = Some NoSetup
refusal_before Version = Some NoSetup
refusal_before (Resume id audit) = Some NoSetup
refusal_before (InEffect id size profile name) = Some NoSetup
refusal_before (RepairDue number counts) = Some NoSetup

-- why a table refuses a record
abbrev pub refusal : Kept → Record → Option Refused
refusal t r = if is_some t.setup then refusal_after t r else refusal_before r

-- what a table keeps after the end of a put
abbrev pub with_done : Kept → ℕ → ℕ → ℕ → Kept
with_done t id size profile =
    record t {
      files = with_put t.files (started_at t id) id size profile;
      started = slice_set t.started (id - suc t.passed) None;
    }

-- what a table keeps after a record that it accepts
abbrev pub with_record : Kept → Record → Kept
with_record t (SetUp s) = record t { setup = Some s }
with_record t (PutStart id name) = record t { started = t.started ++ Some name ∷ []; spare = t.spare - 1 }
with_record t (PutDone id size) = with_done t id size (profile_in t.setup)
with_record t (Drop name) = record t { files = without_file t.files name }
with_record t (AuditStart number) = record t { next_audit = suc number; running = Some number }
with_record t (AuditDone number undecided counts) =
    record t {
      running = None;
      due = if exceeds t.setup counts
          then Some (record { number = number; counts = counts }) else t.due;
    }
with_record t (RepairDone number) = record t { due = None }
with_record t (PutDoneIn id size profile) = with_done t id size profile
with_record t Version = record t { version = 2 }
with_record t (Resume id audit) = record t { passed = id - 1; started = []; next_audit = audit }
with_record t (InEffect id size profile name) =
    record t { files = with_put t.files (Some name) id size profile }
with_record t (RepairDue number counts) =
    record t { due = Some (record { number = number; counts = counts }) }
