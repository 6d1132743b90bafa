-- The run of the one job of a command: what it began with, and what it left. Records have the newest first.
--
--   Ran                          == the records in effect at its begin and at its end, the record in doubt,
--                                   what is seen of each provider and counted of the disk before and after,
--                                   and what the job heard
--   ran_from w new heard         == the same between two states of the machine
--   ran_alone records old new heard faults after doubt
--                                == the same as it is seen of the devices
--   CountsRise x                 == no count of faults fell
--   object_at_begin x file       == the object of a file
--   stripes_at_begin x file      == how many stripes it has
--   profile_among other files id == the profile of the file of a number among these; the other one where
--                                   there is none
--   object_numbered x id         == the object of a number among the files in effect
--   setup_at_begin x             == the setup in effect at its begin
--   job_number                   == 1, the number of the one job
--   EachHeldGoes x change        == so goes what each provider of the setup holds that tells it; one that
--                                   doesn't still does not
--   SameHeld x                   == each provider of the setup holds what it held
--   NoFetches x                  == no provider of the setup was fetched from
--   IsWhole x records            == these records came into effect, given the oldest first, and none is in
--                                   doubt
--   IsCut x records              == so did those of them before some record, and none is in doubt
--   IsCutInDoubt x records       == the same, but that very record may be in doubt
use Rattle.std.specs.Prelude.{◌≡◌, ◌⊎◌, ℕ, ◌<◌, ◌≤◌, ◌==◌, List, [], ◌∷◌, ◌++◌, reverse, Option, None, Some, if◌then◌else◌}
use Rattle.std.specs.Option.{option_map}
use Rattle.column_defs.specs.Objects.{Object}
use Rattle.device_defs.specs.Providers.{Held, Provider}
use Rattle.device_defs.specs.Told as told
use Rattle.record_defs.specs.Records.{Setup, Record}
use Rattle.record_defs.specs.Table.{File, files_of}
use Rattle.machine_defs.specs.Setups.{profiled, object_of}
use Rattle.machine_defs.specs.States.{State, Doubt}
use Rattle.machine_defs.specs.Heard.{Entry}
use Rattle.command_defs.specs.Seen.{Seen, provider_at}
use Rattle.command_defs.specs.Opens.{setup_in_effect, object_in_effect, stripes_in_effect}

-- what a run of one job began with, and what it left
pub record Ran : Type 0 where
  pub records : List Record
  pub after : List Record
  pub doubt : Option Record
  pub old : ℕ → Provider
  pub new : ℕ → Provider
  pub disk_before : ℕ
  pub disk_after : ℕ
  pub heard : List Entry

-- a run between two states of the machine
abbrev pub ran_from : State → State → List Entry → Ran
ran_from w new heard = record {
  records = w.records;
  after = new.records;
  doubt = option_map (λ (d : Doubt). d.entry) new.doubt;
  old = w.providers;
  new = new.providers;
  disk_before = w.disk_faults;
  disk_after = new.disk_faults;
  heard = heard;
}

-- what the run of a job began with and left, as it is seen, where the disk's count of faults was this one
-- once the vault was opened
abbrev pub ran_alone : List Record → Seen → Seen → List Entry → ℕ → List Record → Option Record → Ran
ran_alone records old new heard faults after doubt = record {
  records = records;
  after = after;
  doubt = doubt;
  old = provider_at old.providers;
  new = provider_at new.providers;
  disk_before = faults;
  disk_after = new.disk_faults;
  heard = heard;
}

-- the setup in effect
abbrev pub setup_at_begin : Ran → Setup
setup_at_begin x = setup_in_effect x.records

-- the object of a file
abbrev pub object_at_begin : Ran → File → Object
object_at_begin x file = object_in_effect x.records file

-- how many stripes a file has
abbrev pub stripes_at_begin : Ran → File → ℕ
stripes_at_begin x file = stripes_in_effect x.records file

-- the profile of the file of a number among these; the other one where there is none
abbrev pub profile_among : ℕ → List File → ℕ → ℕ
profile_among other [] id = other
profile_among other (f ∷ fs) id = if f.id == id then f.profile else profile_among other fs id

-- the object of a number among the files in effect
abbrev pub object_numbered : Ran → ℕ → Object
object_numbered x id =
    object_of (profiled (setup_at_begin x)
    (profile_among (setup_at_begin x).profile (files_of x.records) id)) id

-- the number of the one job
abbrev pub job_number : ℕ
job_number = 1

-- so goes what each provider of the setup holds
abbrev pub EachHeldGoes : Ran → (ℕ → Held → Held → Type 0) → Type 0
EachHeldGoes x change =
    (j : ℕ) → j < (setup_at_begin x).n → told.Goes (change j) (x.old j).held (x.new j).held

-- each provider of the setup holds what it held
abbrev pub SameHeld : Ran → Type 0
SameHeld x = (j : ℕ) → j < (setup_at_begin x).n → (x.new j).held ≡ (x.old j).held

-- no provider of the setup was fetched from
abbrev pub NoFetches : Ran → Type 0
NoFetches x = (j : ℕ) → j < (setup_at_begin x).n → (x.new j).fetches ≡ (x.old j).fetches

-- no count of faults of the disk or of a provider fell
pub record CountsRise (x : Ran) : Type 0 where
  pub disk : x.disk_before ≤ x.disk_after
  pub stores : (j : ℕ) → (x.old j).store_faults ≤ (x.new j).store_faults
  pub others : (j : ℕ) → (x.old j).other_faults ≤ (x.new j).other_faults

-- these records came into effect, given the oldest first, and none is in doubt
pub record IsWhole (x : Ran) (records : List Record) : Type 0 where
  pub after : x.after ≡ reverse records ++ x.records
  pub sure : x.doubt ≡ None

-- the records of a job are in effect up to some place, and the next one may be in doubt
pub record IsCutInDoubt (x : Ran) (records : List Record) : Type 0 where
  pub done : List Record
  pub next : Record
  pub rest : List Record
  pub parts : records ≡ done ++ next ∷ rest
  pub after : x.after ≡ reverse done ++ x.records
  pub doubt : (x.doubt ≡ None) ⊎ (x.doubt ≡ Some next)

-- the same, and no record is in doubt
pub record IsCut (x : Ran) (records : List Record) : Type 0 where
  pub done : List Record
  pub next : Record
  pub rest : List Record
  pub parts : records ≡ done ++ next ∷ rest
  pub after : x.after ≡ reverse done ++ x.records
  pub sure : x.doubt ≡ None
