-- Why a command is refused whose job would be the only one. Records have the newest first.
--
--   sight_over area records  == what the refusals of a begin see of these records, where nothing runs
--   refusal_over area records kind own
--                            == the first one that applies; None where the job begins
--   pack_refusal_over area records
--                            == why a pack is refused; None where it begins
--   status_of refusal        == the status that tells of it
--
-- area is that of the journal. own is the profile that a put names; None where it names none, and of every
-- other job.
use Rattle.std.specs.Prelude.{ℕ, false, List, [], Option}
use Rattle.record_defs.specs.Records.{Record}
use Rattle.record_defs.specs.Areas.{Area, end_in}
use Rattle.record_defs.specs.Table.{version_of, next_id, next_audit, files_of, due_of}
use Rattle.machine_defs.specs.Jobs.{Kind, aim_of}
use Rattle.machine_defs.specs.Refusals as refusal
use Rattle.machine_defs.specs.Refusals.{Refusal, first_refusal}
use Rattle.machine_defs.specs.Sights.{Sight, causes}
use Rattle.machine_defs.specs.Alone.{pack_causes}
use Rattle.command_defs.specs.Opens.{setup_in_effect}

-- what the refusals of a begin see of records, where nothing runs and no disk call failed
abbrev pub sight_over : Area → List Record → Sight
sight_over area records = record {
  is_barred = false;
  is_alone = false;
  aims = [];
  files = files_of records;
  due = due_of records;
  version = version_of records;
  setup = setup_in_effect records;
  used = end_in area records;
  next_id = next_id records;
  next_audit = next_audit records;
}

-- why a begin is refused of a job that would be the only one
abbrev pub refusal_over : Area → List Record → Kind → Option ℕ → Option Refusal
refusal_over area records kind own = first_refusal (causes 1 (sight_over area records) (aim_of kind) own)

-- why a pack is refused
abbrev pub pack_refusal_over : Area → List Record → Option Refusal
pack_refusal_over area records = first_refusal (pack_causes (version_of records) area records)

-- the status that tells of a refusal; the others do not come where one job runs alone
abbrev pub status_of : Refusal → ℕ
status_of refusal.NoSuchName = 3
status_of refusal.RepairDue = 6
status_of refusal.NothingDue = 7
status_of refusal.JournalFull = 11
status_of refusal.TooLong = 16
status_of refusal.BadName = 17
status_of refusal.BadProfile = 20
status_of refusal.TooManyFiles = 21
status_of refusal.OldVersion = 23
status_of refusal.NewVersion = 24
status_of refusal.PackTooLong = 26
status_of why = 70
