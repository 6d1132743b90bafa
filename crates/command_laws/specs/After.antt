-- What stands between two commands: which records the store has, and which providers are right for a file.
--
--   IsSure s records                         == the store is known, and whatever a stop leaves of its disk
--                                               stands for these records, in the same area
--   Follows new next                         == the next command finds the disk as the last one left it, or
--                                               as a stop then left it, and as many providers
--   HasPacked command records after          == a pack has put the packed records in their place
--   IsThen command records old new after     == the records after a command: those before it, or these with
--                                               the first few of its job's, or the packed ones
--   is_refusal status                        == the status tells that a command was refused, and has changed
--                                               nothing
--   is_ending status                         == the status is one with which a command ends whose words have
--                                               a form
--   is_wrong_at records s file bytes j       == provider j is wrong for a file of these bytes, or does not
--                                               tell what it holds
--   HasRightFile s records name bytes spoilt == a file of these bytes is in effect, and each provider that is
--                                               not spoilt is right for it
--   IsUntouched n spoilt new next            == each of n providers that is not spoilt holds what it held
--   IsSteady n spoilt old new                == of none of n providers that is not spoilt the count of failed
--                                               calls rose
--   spoilt_below n spoilt                    == how many of n providers are spoilt
--   IsFaultless old new                      == no count rose that could end a command: the disk's, of a
--                                               provider's stores, the source's, the sink's
--   keeps_blocks command                     == a get, a list, an audit, an upgrade and a pack
--   IsOfAnother name command                 == a put or a drop of another name
use Rattle.std.specs.Prelude.{◌≡◌, ◌≢◌, ◌⊎◌, ℕ, ◌<◌, ◌==◌, ◌||◌, Bool, true, false, List, ◌++◌, length, reverse, take, Option, None, Some}
use Rattle.code_defs.specs.Points.{upto}
use Rattle.column_defs.specs.Objects.{Object}
use Rattle.column_defs.specs.Columns.{is_wrong}
use Rattle.column_defs.specs.Forgeries.{count_of}
use Rattle.device_defs.specs.Disks.{Stopped}
use Rattle.device_defs.specs.Faults.{Rose}
use Rattle.device_defs.specs.Providers.{Held}
use Rattle.device_defs.specs.Told.{Goes}
use Rattle.record_defs.specs.Records.{Record}
use Rattle.record_defs.specs.Table.{File, file_of}
use Rattle.record_defs.specs.Packed.{AreAlike, packed}
use Rattle.machine_defs.specs.Jobs.{Kind}
use Rattle.machine_defs.specs.Events.{AreBytes}
use Rattle.command_defs.specs.Forms.{Command, PutUnder, PutAt, GetOf, DropOf, ListAll, AuditAll, UpgradeJournal, PackJournal}
use Rattle.command_defs.specs.Seen.{Seen, provider_at}
use Rattle.command_defs.specs.Opens.{setup_in_effect, object_in_effect}
use Rattle.command_laws.specs.Ends.{IsKnown, profile_named, RunsKind, ReadsWhole, DiskHas}
use Rattle.command_laws.specs.Kept.{AreAppended}

-- the store is known, and each image of its disk stands for these records, in the area in which they are read
pub record IsSure (s : Seen) (records : List Record) : Type 0 where
  pub known : IsKnown s records
  pub images : DiskHas known.opened.area records s

-- the next command finds the disk as the last one left it, or as a stop then left it, and as many providers
pub record Follows (new next : Seen) : Type 0 where
  pub disk : (next.disk ≡ new.disk) ⊎ Goes Stopped new.disk next.disk
  pub handed : length next.providers ≡ length new.providers

-- these are records before a command with the first few of those that its job appends; a put whose last one
-- is among them has read its whole source
pub record HasGrown (command : Command) (records : List Record) (old new : Seen)
    (after : List Record) : Type 0 where
  pub kind : Kind
  pub of_command : RunsKind command old new kind
  pub own : List Record
  pub are_own : AreAppended records kind (profile_named command) own
  pub count : ℕ
  pub whole : 1 < count → ReadsWhole kind old new
  pub after_is : after ≡ reverse (take count own) ++ records

-- a pack has put the packed records in the place of those before, of which a start makes the same table
pub record HasPacked (command : Command) (records after : List Record) : Type 0 where
  pub of_command : command ≡ PackJournal
  pub after_is : after ≡ packed records
  pub alike : AreAlike after records

-- the records after a command, by those before it
abbrev pub IsThen : Command → List Record → Seen → Seen → List Record → Type 0
IsThen command records old new after =
    (after ≡ records) ⊎ (HasGrown command records old new after ⊎ HasPacked command records after)

-- the statuses of refusals
abbrev pub is_refusal : ℕ → Bool
is_refusal status =
    (status == 3) || (status == 6) || (status == 7) || (status == 8) || (status == 9) || (status == 10)
    || (status == 11)
    || (status == 17) || (status == 18) || (status == 20)
    || (status == 21) || (status == 22) || (status == 23) || (status == 24) || (status == 26)

-- the statuses with which a command ends whose words have a form: done, a row lost, faults, a source that is
-- too long, want of memory, and refusals
abbrev pub is_ending : ℕ → Bool
is_ending status =
    (status == 0) || (status == 4) || (status == 12) || (status == 13) || (status == 14) || (status == 15)
    || (status == 16) || (status == 70)
    || is_refusal status

-- a provider with this content is wrong for an object of these bytes
abbrev pub is_wrong_or_untold : Object → List ℕ → ℕ → Option Held → Bool
is_wrong_or_untold o bytes j None = true
is_wrong_or_untold o bytes j (Some held) = is_wrong o bytes j (held o.id)

-- so is a provider as it is seen
abbrev pub is_wrong_at : List Record → Seen → File → List ℕ → ℕ → Bool
is_wrong_at records s file bytes j =
    is_wrong_or_untold (object_in_effect records file) bytes j (provider_at s.providers j).held

-- a file of these bytes is in effect under this name, and each provider that is not spoilt is right for it
pub record HasRightFile (s : Seen) (records : List Record) (name bytes : List ℕ)
    (spoilt : ℕ → Bool) : Type 0 where
  pub file : File
  pub in_effect : file_of records name ≡ Some file
  pub are_bytes : AreBytes bytes
  pub size : length bytes ≡ file.size
  pub right : (j : ℕ) → j < (setup_in_effect records).n → spoilt j ≡ false
      → is_wrong_at records s file bytes j ≡ false

-- each of n providers that is not spoilt holds what it held
abbrev pub IsUntouched : ℕ → (ℕ → Bool) → Seen → Seen → Type 0
IsUntouched n spoilt new next =
    (j : ℕ) → j < n → spoilt j ≡ false
    → (provider_at next.providers j).held ≡ (provider_at new.providers j).held

-- of none of n providers that is not spoilt the count of failed calls rose
abbrev pub IsSteady : ℕ → (ℕ → Bool) → Seen → Seen → Type 0
IsSteady n spoilt old new =
    (j : ℕ) → j < n → spoilt j ≡ false
    → Rose (provider_at old.providers j).other_faults (provider_at new.providers j).other_faults → ⊥

-- how many of n providers are spoilt
abbrev pub spoilt_below : ℕ → (ℕ → Bool) → ℕ
spoilt_below n spoilt = count_of spoilt (upto n)

-- no count rose that could end a command
pub record IsFaultless (old new : Seen) : Type 0 where
  pub disk : Rose old.disk_faults new.disk_faults → ⊥
  pub stores : (j : ℕ) → Rose (provider_at old.providers j).store_faults
      (provider_at new.providers j).store_faults → ⊥
  pub source : Rose old.source_faults new.source_faults → ⊥
  pub sink : Rose old.sink_faults new.sink_faults → ⊥

-- a get, a list, an audit, an upgrade and a pack
abbrev pub keeps_blocks : Command → Bool
keeps_blocks (GetOf name) = true
keeps_blocks ListAll = true
keeps_blocks AuditAll = true
keeps_blocks UpgradeJournal = true
keeps_blocks PackJournal = true
keeps_blocks command = false

-- a put or a drop of another name
abbrev pub IsOfAnother : List ℕ → Command → Type 0
IsOfAnother name (PutUnder other) = other ≢ name
IsOfAnother name (PutAt other profile) = other ≢ name
IsOfAnother name (DropOf other) = other ≢ name
IsOfAnother name command = ⊥
