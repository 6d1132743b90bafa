-- Which record may follow which: the refusals of the fold. Lists of records have the newest first.
use Rattle.std.specs.Prelude.{◌≡◌, ℕ, ◌-◌, ◌^◌, ◌==◌, ◌&&◌, ◌||◌, Bool, false, not, List, [], ◌∷◌, length, Option, None, Some, is_some, nat_le, if◌then◌else◌}
use Rattle.std.specs.List.{list_any}
use Rattle.record_defs.specs.Records.{Setup, Record, SetUp, PutStart, PutDone, Drop, AuditStart, AuditDone, RepairDone, PutDoneIn, Version, Resume, InEffect, RepairDue, most_files}
use Rattle.record_defs.specs.Table.{File, Due, setup_of, version_of, next_id, next_audit, started_as, file_of, files_of, running_audit, due_of, exceeds}

-- why a record may not follow
pub data Refused : Type 0 where
  NoSetup : Refused
  SecondSetup : Refused
  BadId : Refused
  NotStarted : Refused
  TooMany : Refused
  NoName : Refused
  BadAudit : Refused
  NoRepair : Refused
  OldKind : Refused
  OldVersion : Refused
  NewVersion : Refused
  BadResume : Refused
  NameTwice : Refused

-- the running audit has this number
abbrev pub is_running : ℕ → Option ℕ → Bool
is_running number None = false
is_running number (Some k) = k == number

-- the due audit has this number
abbrev pub is_due : ℕ → Option Due → Bool
is_due number None = false
is_due number (Some due) = due.number == number

-- so many counts are those of the setup's providers
abbrev pub is_count_each : ℕ → Option Setup → Bool
is_count_each counts None = false
is_count_each counts (Some s) = counts == s.n

-- no further name fits in beside the files
abbrev pub is_crowded : List Record → List ℕ → Bool
is_crowded rs name = nat_le most_files (length (files_of rs)) && not (is_some (file_of rs name))

-- whether a PutDone may follow, by the name of its start
abbrev pub put_done_refused : List Record → Option (List ℕ) → Option Refused
put_done_refused rs None = Some NotStarted
put_done_refused rs (Some name) = if is_crowded rs name then Some TooMany else None

-- an object number is that of a file in effect
abbrev pub is_file_id : List File → ℕ → Bool
is_file_id files id = list_any (λ (f : File). f.id == id) files

-- whether a packed journal's file may follow: its number is drawn and not in use, and its name is new
abbrev pub in_effect_refused : List Record → ℕ → List ℕ → Option Refused
in_effect_refused rs id name =
    if (id == 0) || nat_le (next_id rs) id || is_file_id (files_of rs) id || is_some (started_as rs id)
    then Some BadId
    else (if is_some (file_of rs name) then Some NameTwice
    else (if is_crowded rs name then Some TooMany else None))

-- whether a packed journal's due audit may follow: its number is drawn, none is due, and its counts flag a
-- provider
abbrev pub repair_due_refused : List Record → ℕ → List ℕ → Option Refused
repair_due_refused rs number counts =
    if (number == 0) || nat_le (next_audit rs) number || is_some (due_of rs)
    || not (is_count_each (length counts) (setup_of rs)) || not (exceeds (setup_of rs) counts)
    then Some BadAudit else None

-- whether a packed journal's next numbers may follow: none was drawn before, and each fits 64 bits
abbrev pub resume_refused : List Record → ℕ → ℕ → Option Refused
resume_refused rs id audit =
    if (version_of rs == 1) || not (next_id rs == 1) || not (next_audit rs == 1)
    || (id == 0) || nat_le (2 ^ 64) id || (audit == 0) || nat_le (2 ^ 64) audit
    then Some BadResume else None

-- why a record may not follow records with a setup
abbrev pub refused_after : List Record → Record → Option Refused
refused_after rs (SetUp s) = Some SecondSetup
refused_after rs (PutStart id name) =
    if not (id == next_id rs) || (id == 2 ^ 64 - 1) then Some BadId else None
refused_after rs (PutDone id size) =
    if version_of rs == 2 then Some OldKind else put_done_refused rs (started_as rs id)
refused_after rs (Drop name) = if is_some (file_of rs name) then None else Some NoName
refused_after rs (AuditStart number) =
    if not (number == next_audit rs) || (number == 2 ^ 64 - 1) || is_some (due_of rs) then Some BadAudit
    else None
refused_after rs (AuditDone number undecided counts) =
    if is_running number (running_audit rs) && is_count_each (length counts) (setup_of rs) then None
    else Some BadAudit
refused_after rs (RepairDone number) = if is_due number (due_of rs) then None else Some NoRepair
refused_after rs (PutDoneIn id size profile) =
    if version_of rs == 1 then Some OldVersion else put_done_refused rs (started_as rs id)
refused_after rs Version = if version_of rs == 2 then Some NewVersion else None
refused_after rs (Resume id audit) = resume_refused rs id audit
refused_after rs (InEffect id size profile name) =
    if version_of rs == 1 then Some OldVersion else in_effect_refused rs id name
refused_after rs (RepairDue number counts) =
    if version_of rs == 1 then Some OldVersion else repair_due_refused rs number counts

-- why a record may not come first
abbrev pub refused_first : Record → Option Refused
refused_first (SetUp s) = None
refused_first (PutStart id name) = Some NoSetup
refused_first (PutDone id size) = Some NoSetup
refused_first (Drop name) = Some NoSetup
refused_first (AuditStart number) = Some NoSetup
refused_first (AuditDone number undecided counts) = Some NoSetup
refused_first (RepairDone number) = Some NoSetup
refused_first (PutDoneIn id size profile) = Some NoSetup
refused_first Version = Some NoSetup
refused_first (Resume id audit) = Some NoSetup
refused_first (InEffect id size profile name) = Some NoSetup
refused_first (RepairDue number counts) = Some NoSetup

-- why a record may not follow
abbrev pub refused : List Record → Record → Option Refused
refused rs r = if is_some (setup_of rs) then refused_after rs r else refused_first r

-- each record was accepted in its turn
abbrev pub AreAccepted : List Record → Type 0
AreAccepted [] = Unit {0}
AreAccepted (r ∷ rs) = (refused rs r ≡ None) × AreAccepted rs
