-- Where a replay may start, and the devices that it is lent.
--
--   devices_of D P disk providers     == a disk and the providers handed in, by the members of their traits
--   sinking_since K first before sink == what the sink told and counted, from these on
--   sinking_of K old new              == the same, of two moments of a sink
--   call_from w                       == the event of a later call of the program, from a state
--   called_behind start before        == a run with that event behind it
--   IsNewClient c                     == a client with no vault open, whose jobs are numbered from 1; it
--                                        stands for what a later call of the program finds
--   AreLeft start before d            == the devices are those that a run from a start has left; before the
--                                        first event the run is empty
use Rattle.std.specs.Prelude.{◌≡◌, ℕ, List, ◌∷◌, Option, map, false}
use Rattle.disk_model.specs.declared.disk.Disk.{Ghosts as DiskGhosts}
use Rattle.provider_model.specs.declared.provider.Provider.{Ghosts as ProviderGhosts}
use Rattle.stream_model.specs.declared.sink.Sink.{Ghosts as SinkGhosts}
use Rattle.command_defs.specs.Sinking.{Sinking}
use Rattle.machine_defs.specs.Events.{Continue, Continued}
use Rattle.machine_defs.specs.Runs.{Moment, now, IsRun}
use Rattle.machine_defs.specs.States.{State, IsStart, continued}
use Rattle.vault_open.specs.Devices.{Devices, AreDevices, devices}
use Rattle.provider_model.specs.Seen.{provider_seen}
use Rattle.state_laws.specs.Sound.{IsSound}
use Rattle.hail_client.specs.declared.client.Client.{Client}
use Rattle.hail_client.specs.Client.{is_open, client_next_job}
use Rattle.hail_client.specs.Stands.{ClientStands}

-- a disk and providers, by the members of their traits
abbrev pub devices_of : {X Y : Type 0} → DiskGhosts X → ProviderGhosts Y → X → List Y → Devices
devices_of D P disk providers =
    devices (D.holds disk) (D.faults disk) (map (provider_seen P) providers)

-- what a sink told and counted, since it told and counted these
abbrev pub sinking_since : {X : Type 0} → SinkGhosts X → Option (List ℕ) → ℕ → X → Sinking
sinking_since K first before sink =
    record { old = first; new = K.written sink; before = before; now = K.faults sink }

-- what a sink told and counted in a call
abbrev pub sinking_of : {X : Type 0} → SinkGhosts X → X → X → Sinking
sinking_of K old new = sinking_since K (K.written old) (K.faults old) new

-- a later call of the program: no vault is open, and jobs are numbered from 1
abbrev pub call_from : State → Moment
call_from w = record { event = Continue; outcome = Continued; state = continued w }

-- moments behind a later call of the program, which follows on a run
abbrev pub called_behind : State → List Moment → List Moment
called_behind start before = call_from (now start before) ∷ before

-- a client with no vault open and no job behind it
pub record IsNewClient (c : Client) : Type 0 where
  pub closed : is_open c ≡ false
  pub first : client_next_job c ≡ 1
  pub stands : (d : Devices) (w : State) → IsSound 8 w → AreDevices d w → ClientStands c d (continued w)

-- the devices are those that a run has left
pub record AreLeft (start : State) (before : List Moment) (d : Devices) : Type 0 where
  pub starts : IsStart start
  pub run : IsRun 8 start before
  pub devices : AreDevices d (now start before)
