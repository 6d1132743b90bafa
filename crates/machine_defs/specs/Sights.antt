-- What the refusals of a begin look at, and these refusals in order.
--
--   Sight                      == all that they look at
--   puts_name name aim         == a job of this aim is a put of this name
--   sight_of w                 == what they see of a state
--   is_shut x                  == a scrub, a pack or an upgrade runs, beside which no job begins
--   is_busy limit x aim        == what runs leaves no place for a job of this aim
--   names_taken x              == the names in effect and those of running puts, each once
--   is_crowded_for x name      == these are as many as can be, and this name is not among them
--   is_full x aim              == no job of this aim can have its records: they find no room, or its number
--                                 would come too near the last one
--   causes limit x aim profile == the causes for which a begin is refused, in order; a put may name a profile
use Rattle.std.specs.Prelude.{ℕ, ◌+◌, ◌-◌, ◌^◌, ◌==◌, ◌&&◌, ◌||◌, Bool, true, false, not, List, [], ◌∷◌, ◌++◌, length, map, sum, sum_by, Option, None, Some, is_some, nat_lt, nat_le, if◌then◌else◌}
use Rattle.std.specs.List.{list_any}
use Rattle.record_defs.specs.Records.{Setup, is_name, largest_file, largest_journal, most_files, all_profiles}
use Rattle.record_defs.specs.Table.{File, Due, version_of, is_same_name, find_file, files_of, due_of, next_id, next_audit}
use Rattle.machine_defs.specs.Jobs.{Aim, ToPut, ToGet, ToDrop, ToAudit, ToRepair, ToUpgrade, aim_of, Job}
use Rattle.machine_defs.specs.Refusals as refusal
use Rattle.machine_defs.specs.Refusals.{Cause}
use Rattle.machine_defs.specs.States.{State, setup_in, journal_end}
use Rattle.machine_defs.specs.Space.{append_sizes, reserved}

-- all that the refusals of a begin look at
pub record Sight : Type 0 where
  pub is_barred : Bool  -- a disk call failed
  pub is_alone : Bool  -- a scrub or a pack runs
  pub aims : List Aim  -- of the running jobs, in the order of their begins
  pub files : List File  -- in effect
  pub due : Option Due
  pub version : ℕ  -- of the journal
  pub setup : Setup
  pub used : ℕ  -- bytes of the journal's text, with all that is reserved for the running jobs
  pub next_id : ℕ
  pub next_audit : ℕ

-- a put of this name
abbrev pub puts_name : List ℕ → Aim → Bool
puts_name name (ToPut own size) = is_same_name name own
puts_name name aim = false

-- the aims of running jobs
abbrev pub aims_of : List Job → List Aim
aims_of jobs = map (λ (j : Job). aim_of j.kind) jobs

-- the bytes of the journal's text, with all that is reserved for the running jobs
abbrev pub room_used : State → ℕ
room_used w = journal_end w + sum_by (reserved (version_of w.records) (setup_in w)) w.jobs

-- what the refusals of a begin see of a state
abbrev pub sight_of : State → Sight
sight_of w = record {
  is_barred = w.is_barred;
  is_alone = is_some w.alone;
  aims = aims_of w.jobs;
  files = files_of w.records;
  due = due_of w.records;
  version = version_of w.records;
  setup = setup_in w;
  used = room_used w;
  next_id = next_id w.records;
  next_audit = next_audit w.records;
}

-- a job is an audit or a repair
abbrev pub is_check : Aim → Bool
is_check ToAudit = true
is_check ToRepair = true
is_check aim = false

-- a job is a put, an audit or a repair
abbrev pub is_put_or_check : Aim → Bool
is_put_or_check (ToPut name size) = true
is_put_or_check aim = is_check aim

-- a job is an upgrade
abbrev pub is_upgrade : Aim → Bool
is_upgrade ToUpgrade = true
is_upgrade aim = false

-- a scrub, a pack or an upgrade runs, beside which no job begins
abbrev pub is_shut : Sight → Bool
is_shut x = x.is_alone || list_any is_upgrade x.aims

-- the jobs that run leave no place for one of this aim
abbrev pub are_jobs_in_the_way : ℕ → List Aim → Aim → Bool
are_jobs_in_the_way limit aims ToAudit = nat_le limit (length aims) || list_any is_put_or_check aims
are_jobs_in_the_way limit aims ToRepair = nat_le limit (length aims) || list_any is_check aims
are_jobs_in_the_way limit aims ToUpgrade = nat_lt 0 (length aims)
are_jobs_in_the_way limit aims aim = nat_le limit (length aims)

-- what runs leaves no place for a job of this aim
abbrev pub is_busy : ℕ → Sight → Aim → Bool
is_busy limit x aim = is_shut x || are_jobs_in_the_way limit x.aims aim

-- a name is one of these
abbrev pub is_name_among : List (List ℕ) → List ℕ → Bool
is_name_among names name = list_any (is_same_name name) names

-- names with one more, unless it is among them
abbrev pub with_name : List (List ℕ) → List ℕ → List (List ℕ)
with_name names name = if is_name_among names name then names else name ∷ names

-- names in effect
abbrev pub names_in : List File → List (List ℕ)
names_in [] = []
names_in (f ∷ fs) = f.name ∷ names_in fs

-- names with those of the puts among these jobs
abbrev pub with_puts : List (List ℕ) → List Aim → List (List ℕ)
with_puts names [] = names
with_puts names (aim ∷ aims) = add aim (with_puts names aims)
  where
    add : Aim → List (List ℕ) → List (List ℕ)
    add (ToPut name size) others = with_name others name
    add aim others = others

-- the names in effect and those of running puts
abbrev pub names_taken : Sight → List (List ℕ)
names_taken x = with_puts (names_in x.files) x.aims

-- no further name fits in
abbrev pub is_crowded_for : Sight → List ℕ → Bool
is_crowded_for x name = nat_le most_files (length (names_taken x)) && not (is_name_among (names_taken x) name)

-- the journal would grow too long with a job of this aim
abbrev pub is_too_full : Sight → Aim → Bool
is_too_full x aim = nat_lt largest_journal (x.used + sum (append_sizes x.version x.setup aim))

-- the numbers that a job of this aim draws come to their end
abbrev pub are_numbers_used_up : Sight → Aim → Bool
are_numbers_used_up x (ToPut name size) = nat_lt (2 ^ 64 - 32) x.next_id
are_numbers_used_up x ToAudit = nat_lt (2 ^ 64 - 32) x.next_audit
are_numbers_used_up x aim = false

-- no job of this aim can have its records; a get has none
abbrev pub is_full : Sight → Aim → Bool
is_full x (ToGet name) = false
is_full x aim = is_too_full x aim || are_numbers_used_up x aim

-- the cause for which a profile that a put names is unknown
abbrev pub unknown_profile : Option ℕ → List Cause
unknown_profile None = []
unknown_profile (Some profile) =
    record { applies = nat_le all_profiles profile; refusal = refusal.BadProfile } ∷ []

-- the cause for which a journal cannot hold the profile that a put names: it has its first version
abbrev pub too_old : Sight → Option ℕ → List Cause
too_old x None = []
too_old x (Some profile) = record { applies = x.version == 1; refusal = refusal.OldVersion } ∷ []

-- a name is in effect
abbrev pub is_stored : Sight → List ℕ → Bool
is_stored x name = is_some (find_file x.files name)

-- the causes for which a begin is refused, in order; a put may name a profile
abbrev pub causes : ℕ → Sight → Aim → Option ℕ → List Cause
causes limit x aim profile =
    record { applies = x.is_barred; refusal = refusal.MustReopen }
    ∷ record { applies = is_busy limit x aim; refusal = refusal.Busy }
    ∷ by_aim aim ++ record { applies = is_full x aim; refusal = refusal.JournalFull } ∷ []
  where
    by_aim : Aim → List Cause
    by_aim (ToPut name size) =
        record { applies = not (is_name name); refusal = refusal.BadName }
        ∷ (unknown_profile profile
        ++ record { applies = nat_lt largest_file size; refusal = refusal.TooLong }
        ∷ (too_old x profile
        ++ record { applies = is_crowded_for x name; refusal = refusal.TooManyFiles } ∷ []))
    by_aim (ToGet name) =
        record { applies = not (is_name name); refusal = refusal.BadName }
        ∷ record { applies = not (is_stored x name); refusal = refusal.NoSuchName } ∷ []
    by_aim (ToDrop name) =
        record { applies = not (is_name name); refusal = refusal.BadName }
        ∷ record { applies = not (is_stored x name); refusal = refusal.NoSuchName } ∷ []
    by_aim ToAudit = record { applies = is_some x.due; refusal = refusal.RepairDue } ∷ []
    by_aim ToRepair = record { applies = not (is_some x.due); refusal = refusal.NothingDue } ∷ []
    by_aim ToUpgrade = record { applies = x.version == 2; refusal = refusal.NewVersion } ∷ []
