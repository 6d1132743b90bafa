-- What is told of the devices that a step is lent.
--
--   devices_seen D P disk providers == the devices, of a disk and providers by the members of their traits
--                                      taken whole
--   IsSameBeyond w d e              == what the disk reads past the text with the record in flight is as
--                                      before
--   IsSamePast w job d e            == past the text with the record that a job's append writes the disk
--                                      reads as before
--   cells_by is_told told, devices_by is_told D P disk providers
--                                   == what is seen of a disk's cells and of the devices, or the same with no
--                                      content told
use Rattle.std.specs.Prelude.{◌≡◌, ℕ, Bool, true, false, List, ◌∷◌, Option, Some, None, map}
use Rattle.device_defs.specs.Cells.{Cells}
use Rattle.disk_model.specs.declared.disk.Disk.{Ghosts as DiskGhosts}
use Rattle.provider_model.specs.declared.provider.Provider.{Ghosts as ProviderGhosts}
use Rattle.provider_model.specs.Seen.{provider_seen}
use Rattle.stripe_bench.specs.Calls.{sight}
use Rattle.device_defs.specs.Told.{Goes}
use Rattle.record_defs.specs.Records.{Record}
use Rattle.record_defs.specs.Areas.{end_in}
use Rattle.machine_defs.specs.States.{State, Append}
use Rattle.journal_core.specs.Moves.{SameFrom}
use Rattle.vault_core.specs.Carried.{IsWriting}
use Rattle.vault_open.specs.Devices.{Devices, devices}

-- the devices, by the members of their traits
abbrev pub devices_seen : {W X : Type 0} → DiskGhosts W → ProviderGhosts X → W → List X → Devices
devices_seen D P disk providers = devices (D.holds disk) (D.faults disk) (map (provider_seen P) providers)

-- the records of a journal, with the one of the append in flight
abbrev pub records_in_flight : List Record → Option Append → List Record
records_in_flight rs None = rs
records_in_flight rs (Some flight) = flight.entry ∷ rs

-- what the disk reads past the text, with the record in flight, is as before
abbrev pub IsSameBeyond : State → Devices → Devices → Type 0
IsSameBeyond w old new =
    Goes (SameFrom (end_in w.area (records_in_flight w.journal w.append))) old.holds new.holds

-- past the text of the journal, with the record that the job was appending, the disk reads as before; where
-- an append was in flight, it is its record
pub record IsSamePast (w : State) (job : ℕ) (old new : Devices) : Type 0 where
  pub entry : Record
  pub writing : IsWriting w job entry
  pub in_flight : (a : Append) → w.append ≡ Some a → a.entry ≡ entry
  pub same : Goes (SameFrom (end_in w.area (entry ∷ w.journal))) old.holds new.holds

-- the cells of a disk, or none told
abbrev pub cells_by : Bool → Option Cells → Option Cells
cells_by true told = told
cells_by false told = None

-- the devices, with their content or without
abbrev pub devices_by : {W X : Type 0} → Bool → DiskGhosts W → ProviderGhosts X → W → List X → Devices
devices_by is_told D P disk providers =
    devices (cells_by is_told (D.holds disk)) (D.faults disk) (map (sight is_told P) providers)
