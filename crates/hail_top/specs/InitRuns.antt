-- An `init` over devices that a run has left.
--
--   TellsInit result end            == the status tells what came of an init: the line of one that is done may
--                                      have been cut off
--   IsInitMade s end w own          == these moments are what the machine makes of an init with this setup,
--                                      from this state on: a later call of the program, and the init
--   InitGoesOn s d e end            == whatever run from a start has left the devices, those behind the init
--                                      are left by that run with such moments
--   InitsDevices numbers old new end
--                                   == an `init` left the devices as they were, or goes on with that run, its
--                                      setup of the key that the source gave
--   InitsOn command old new end     == so does a command that is an `init`
use Rattle.std.specs.Prelude.{◌≡◌, ◌⊎◌, ℕ, List, [], ◌∷◌, ◌++◌, Result, Ok, Err, IsSome}
use Rattle.record_defs.specs.Records.{Setup}
use Rattle.machine_defs.specs.Events.{Init}
use Rattle.machine_defs.specs.Runs.{Moment, now}
use Rattle.machine_defs.specs.States.{State}
use Rattle.command_defs.specs.Forms.{Command, Numbers, InitWith}
use Rattle.command_defs.specs.Inits.{setup_with}
use Rattle.command_defs.specs.Keys.{IsKeyForm, longest_key}
use Rattle.command_defs.specs.Seen.{Seen, Ending, ReadsUpTo}
use Rattle.vault_open.specs.declared.fault.InitFault.{InitFault}
use Rattle.vault_open.specs.Devices.{Devices}
use Rattle.vault_open.specs.Inits.{init_outcome}
use Rattle.hail_replay.specs.Answers.{devices_of_seen}
use Rattle.hail_replay.specs.Starts.{AreLeft, call_from}
use Rattle.hail_top.specs.SetUps.{init_ending}

-- the status tells what came of an init
abbrev pub TellsInit : Result Unit InitFault → Ending → Type 0
TellsInit (Ok done) end = (end.status ≡ 0) ⊎ ((end.status ≡ 15) ⊎ (end.status ≡ 70))
TellsInit (Err why) end = end ≡ init_ending why

-- what the machine makes of an init from this state on
pub record IsInitMade (s : Setup) (end : Ending) (w : State) (own : List Moment) : Type 0 where
  pub result : Result Unit InitFault
  pub last : State
  pub moments : own
      ≡ record { event = Init s; outcome = init_outcome result; state = last } ∷ call_from w ∷ []
  pub told : TellsInit result end

-- the devices behind an init are left by the run that left those before it, with its moments
abbrev pub InitGoesOn : Setup → Devices → Devices → Ending → Type 0
InitGoesOn s d e end =
    (start : State) (ms : List Moment) → IsSome d.holds → AreLeft start ms d
    → (own : List Moment) × IsInitMade s end (now start ms) own × AreLeft start (own ++ ms) e

-- an `init` left the devices as they were, or is an event of the machine with the key that the source gave
pub data InitsDevices (numbers : Numbers) (old new : Seen) (end : Ending) : Type 0 where
  untouched : new.disk ≡ old.disk → new.disk_faults ≡ old.disk_faults → new.providers ≡ old.providers
      → InitsDevices numbers old new end
  made : (bytes key : List ℕ) → ReadsUpTo longest_key old.source new.source bytes → IsKeyForm bytes key
      → InitGoesOn (setup_with numbers key) (devices_of_seen old) (devices_of_seen new) end
      → InitsDevices numbers old new end

-- so does a command that is an `init`
abbrev pub InitsOn : Command → Seen → Seen → Ending → Type 0
InitsOn (InitWith numbers) old new end = InitsDevices numbers old new end
InitsOn command old new end = Unit {0}
