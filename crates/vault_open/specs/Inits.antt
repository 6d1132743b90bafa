-- An init as an event of the machine.
--
--   init_outcome result           == the outcome of an init
--   MayInit w told                == no vault is open over a disk that tells what it holds
--   MakesInit w moment s result d == an init is one of the machine
use Rattle.std.specs.Prelude.{◌≡◌, ℕ, false, Option, Result, Ok, Err, IsSome}
use Rattle.device_defs.specs.Cells.{Cells}
use Rattle.record_defs.specs.Records.{Setup}
use Rattle.machine_defs.specs.Refusals.{Refusal}
use Rattle.machine_defs.specs.Refusals as refusal
use Rattle.machine_defs.specs.Events as events
use Rattle.machine_defs.specs.Events.{Outcome, Init}
use Rattle.machine_defs.specs.States.{State}
use Rattle.machine_defs.specs.Machine.{Happens}
use Rattle.state_laws.specs.Sound.{IsSound}
use Rattle.vault_open.specs.declared.fault.InitFault.{InitFault}
use Rattle.vault_open.specs.declared.fault.InitFault.TheVariants as init_fault
use Rattle.vault_open.specs.Devices.{Devices, AreDevices}

-- why an init was refused
abbrev pub init_refusal : InitFault → Refusal
init_refusal init_fault.BadSetup = refusal.BadSetup
init_refusal init_fault.DiskFault = refusal.DiskFault
init_refusal (init_fault.BadJournal at) = refusal.BadJournal at
init_refusal init_fault.Already = refusal.Already
init_refusal init_fault.Memory = refusal.Memory

-- the outcome of an init
abbrev pub init_outcome : Result Unit InitFault → Outcome
init_outcome (Ok done) = events.Ready
init_outcome (Err fault) = events.Refused (init_refusal fault)

-- no vault is open over a disk that tells what it holds
pub record MayInit (w : State) (told : Option Cells) : Type 0 where
  pub sound : IsSound 8 w
  pub closed : w.is_open ≡ false
  pub told_is : IsSome told

-- an init is one of the machine
pub record MakesInit (w : State) (moment : ℕ) (s : Setup) (result : Result Unit InitFault)
    (d : Devices) : Type 0 where
  pub state : State
  pub happens : Happens 8 moment w (Init s) (init_outcome result) state
  pub devices : AreDevices d state
