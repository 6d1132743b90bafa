-- What stands before the begin of a command over a store that is set up. Records have the newest first.
--
--   setup_in_effect records        == the setup in effect
--   object_in_effect records file  == the object of a file in effect
--   stripes_in_effect records file == how many stripes it has
--   IsOpened old records           == they are read in an area, and enough providers are handed in
--   Unstarted old new end          == the command ended before that, with its cause
--
-- The causes exclude one another, and bytes that a start reads stand for one list of records: so each
-- status comes exactly where its cause applies, unless a counted fault of the disk or want of memory comes
-- before.
use Rattle.std.specs.Prelude.{ℕ, ◌<◌, ◌≤◌, IfSome, List, length}
use Rattle.column_defs.specs.Objects.{Object}
use Rattle.device_defs.specs.Faults.{Rose}
use Rattle.record_defs.specs.Records.{Setup, Record}
use Rattle.record_defs.specs.Areas.{Area}
use Rattle.record_defs.specs.Table.{File, setup_of}
use Rattle.record_defs.specs.Reading.{HasNoSetup}
use Rattle.machine_defs.specs.Setups.{setup_or_none, profiled, object_of, stripes_of}
use Rattle.opening_defs.specs.Journals.{journal_read, IsRead, IsBadStart}
use Rattle.command_defs.specs.Seen.{Seen, Ending, IsRefused, IsSynced}

-- the setup in effect
abbrev pub setup_in_effect : List Record → Setup
setup_in_effect records = setup_or_none (setup_of records)

-- the object of a file in effect
abbrev pub object_in_effect : List Record → File → Object
object_in_effect records file = object_of (profiled (setup_in_effect records) file.profile) file.id

-- how many stripes a file in effect has
abbrev pub stripes_in_effect : List Record → File → ℕ
stripes_in_effect records file = stripes_of (profiled (setup_in_effect records) file.profile) file.size

-- the records are read in the active area, and enough providers are handed in
pub record IsOpened (old : Seen) (records : List Record) : Type 0 where
  pub area : Area
  pub read : IsRead old.disk area records
  pub enough : (setup_in_effect records).n ≤ length old.providers

-- a command over a store that is set up ends before its begin
pub data Unstarted (old new : Seen) (end : Ending) : Type 0 where
  disk_fault : Rose old.disk_faults new.disk_faults → IsRefused 12 0 old new end → Unstarted old new end
  not_set_up : IfSome old.disk (λ cells. HasNoSetup (journal_read cells)) → IsSynced old new
      → IsRefused 9 0 old new end → Unstarted old new end
  bad_journal : (at : ℕ) → IfSome old.disk (λ cells. (9 < length (journal_read cells)) × IsBadStart
      (journal_read cells) at) → IsRefused 8 at old new end → Unstarted old new end
  too_few_providers : (area : Area) (records : List Record) → IsRead old.disk area records
      → length old.providers < (setup_in_effect records).n → IsSynced old new →
      IsRefused 22 0 old new end → Unstarted old new end
  no_memory : IsRefused 70 0 old new end → Unstarted old new end
