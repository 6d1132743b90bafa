-- What is seen of the devices of a command, and how it ended.
--
--   Seen                            == the devices as they are seen: what each holds, has left or has
--                                      written, where it tells it, and its counts
--   provider_at ps j                == what is seen of provider j; of one that was not handed in nothing is
--                                      known
--   sinking old new                 == what the sink told and counted
--   NoCountFalls old new            == no device's count of faults fell, and no provider came or went
--   KeepsDisk old new               == the disk was synced, or was left as it was; so all its images were
--                                      images before
--   IsSynced old new                == the disk was synced, and nothing else was done to it
--   SameSource old new              == the source was not read
--   ReadsAtMost most old new        == some bytes were read of a source, at most so many
--   ReadsUpTo most old new bytes    == these bytes were read of a source, at most so many; where they are
--                                      fewer, it is at its end
--   ReadsFront old new bytes        == these bytes were read of a source, whether or not it is at its end
--   Ending                          == how a command ended: its status, the place that the status speaks of,
--                                      and what its job heard
--   IsRefused status at old new end == the command ended so: nothing was heard or written, the disk was at
--                                      most synced, and the providers are as before; 70 is no fault of it
use Rattle.std.specs.Prelude.{◌≡◌, ℕ, ◌<◌, ◌≤◌, List, [], length, slice_get, unwrap_or, Option, None, IfSome}
use Rattle.std.specs.Option.{option_map}
use Rattle.device_defs.specs.Told.{Goes, then_told}
use Rattle.device_defs.specs.Cells.{Cells}
use Rattle.device_defs.specs.Disks.{synced}
use Rattle.device_defs.specs.Providers.{Provider}
use Rattle.machine_defs.specs.Events.{AreBytes}
use Rattle.machine_defs.specs.Heard.{Entry}
use Rattle.opening_defs.specs.Journals.{IsResynced}
use Rattle.command_defs.specs.Sinking.{Sinking}

-- the devices of a command, as they are seen
pub record Seen : Type 0 where
  pub disk : Option Cells
  pub disk_faults : ℕ
  pub providers : List Provider
  pub source : Option (List ℕ)
  pub source_faults : ℕ
  pub sink : Option (List ℕ)
  pub sink_faults : ℕ

-- what is seen of all devices, from the disk's to the sink's
abbrev pub seen : Option Cells → ℕ → List Provider → Option (List ℕ) → ℕ → Option (List ℕ) → ℕ → Seen
seen disk disk_faults providers left read_faults written write_faults = record {
  disk = disk;
  disk_faults = disk_faults;
  providers = providers;
  source = left;
  source_faults = read_faults;
  sink = written;
  sink_faults = write_faults;
}

-- a provider of which nothing is known
abbrev pub nobody : Provider
nobody = record { held = None; store_faults = 0; other_faults = 0; fetches = 0 }

-- what is seen of a provider
abbrev pub provider_at : List Provider → ℕ → Provider
provider_at providers j = unwrap_or (slice_get providers j) nobody

-- what the sink told and counted
abbrev pub sinking : Seen → Seen → Sinking
sinking old new = record { old = old.sink; new = new.sink; before = old.sink_faults; now = new.sink_faults }

-- no count of faults fell, and no provider came or went
pub record NoCountFalls (old new : Seen) : Type 0 where
  pub disk : old.disk_faults ≤ new.disk_faults
  pub handed : length new.providers ≡ length old.providers
  pub stores : (j : ℕ) → (provider_at old.providers j).store_faults
      ≤ (provider_at new.providers j).store_faults
  pub others : (j : ℕ) → (provider_at old.providers j).other_faults
      ≤ (provider_at new.providers j).other_faults
  pub source : old.source_faults ≤ new.source_faults
  pub sink : old.sink_faults ≤ new.sink_faults

-- the disk was synced, or was left as it was
abbrev pub KeepsDisk : Seen → Seen → Type 0
KeepsDisk old new = Goes IsResynced old.disk new.disk

-- the disk was synced, and nothing else was done to it
abbrev pub IsSynced : Seen → Seen → Type 0
IsSynced old new = new.disk ≡ option_map synced old.disk

-- the source was not read
abbrev pub SameSource : Seen → Seen → Type 0
SameSource old new = (new.source ≡ old.source) × (new.source_faults ≡ old.source_faults)

-- some bytes were read of a source, at most so many
pub record ReadsAtMost (most : ℕ) (old new : Option (List ℕ)) : Type 0 where
  pub bytes : List ℕ
  pub front : old ≡ then_told bytes new
  pub few : length bytes ≤ most

-- these bytes were read of a source, at most so many; it is at its end where they are fewer
pub record ReadsUpTo (most : ℕ) (old new : Option (List ℕ)) (bytes : List ℕ) : Type 0 where
  pub are_bytes : AreBytes bytes
  pub front : old ≡ then_told bytes new
  pub few : length bytes ≤ most
  pub end : length bytes < most → IfSome new (λ left. left ≡ [])

-- these bytes were read of a source
pub record ReadsFront (old new : Option (List ℕ)) (bytes : List ℕ) : Type 0 where
  pub are_bytes : AreBytes bytes
  pub front : old ≡ then_told bytes new

-- how a command ended
pub record Ending : Type 0 where
  pub status : ℕ
  pub at : ℕ
  pub heard : List Entry

-- a command ended without a word; one that found no memory counted no fault of the disk
pub record IsRefused (status at : ℕ) (old new : Seen) (end : Ending) : Type 0 where
  pub status_is : end.status ≡ status
  pub place : end.at ≡ at
  pub heard : end.heard ≡ []
  pub disk : KeepsDisk old new
  pub providers : new.providers ≡ old.providers
  pub sink : new.sink ≡ old.sink
  pub no_fault : status ≡ 70 → new.disk_faults ≡ old.disk_faults
