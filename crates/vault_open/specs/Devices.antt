-- What is told of the devices of a vault, and how a state of the machine matches it.
--
--   Devices            == what a disk holds, where it tells it, its count of faults, and what is seen of
--                         the providers handed in
--   AreDevices d w     == the devices are those of a state: images, count of faults, providers
use Rattle.std.specs.Prelude.{◌≡◌, ℕ, List, Option}
use Rattle.device_defs.specs.Cells.{Cells}
use Rattle.device_defs.specs.Providers.{Provider}
use Rattle.machine_defs.specs.States.{State}
use Rattle.machine_defs.specs.Stands.{StandsForState}
use Rattle.opening_defs.specs.Opened.{AreHanded}

-- a disk and the providers handed in
pub record Devices : Type 0 where
  pub holds : Option Cells
  pub faults : ℕ
  pub providers : List Provider

-- the same, by what is told of each
abbrev pub devices : Option Cells → ℕ → List Provider → Devices
devices holds faults providers = record { holds = holds; faults = faults; providers = providers }

-- the devices of a state
pub record AreDevices (d : Devices) (w : State) : Type 0 where
  pub images : StandsForState d.holds w
  pub faults : w.disk_faults ≡ d.faults
  pub providers : AreHanded d.providers w
