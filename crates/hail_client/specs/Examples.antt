-- A client, devices and states for the worked rows.
--
--   closed_client  == a client with no vault open, whose next job is the first
--   fresh          == a disk that reads nothing, and four providers that hold nothing
--   hidden         == a disk and four providers of no known state
--   stored_devices == a disk that reads a journal with one file of 100 bytes, and six providers that hold
--                     nothing
--   notes          == that file
--   stored_state   == the state at rest over that journal, with no vault open
--   stored_open    == the same with a vault open
--   stored_scrub   == a scrub of that file that has done nothing yet
--   scrubbed_state == the state behind the begin of that scrub
--   raised_records == a setup of four providers, and the second version of the journal
--   raised_devices == a disk that reads their text, and four providers that hold nothing
--   raised_open    == the state at rest over that journal, with a vault open
--   packing_state  == the state behind the begin of a pack of it
use Rattle.std.specs.Prelude.{true, false, List, [], ◌∷◌, ◌++◌, map, replicate, codes, Some, None}
use Rattle.device_defs.specs.Cells.{firm}
use Rattle.device_defs.specs.Providers.{Provider}
use Rattle.record_defs.specs.Examples.{four_set_up}
use Rattle.record_defs.specs.Journal.{text}
use Rattle.record_defs.specs.Records.{Record, Version}
use Rattle.record_defs.specs.Table.{File}
use Rattle.code_defs.specs.Points.{upto}
use Rattle.machine_defs.specs.Actions.{Fetch, Work, End}
use Rattle.machine_defs.specs.Examples.{empty_provider, six, one_file, hundred, opened}
use Rattle.machine_defs.specs.Setups.{profiled, object_of}
use Rattle.machine_defs.specs.States.{State}
use Rattle.hail_scrub.specs.Begins.{held}
use Rattle.hail_scrub.specs.Views.{Between, ScrubView}
use Rattle.vault.specs.Packing.{pack_begun}
use Rattle.vault_open.specs.Devices.{Devices, devices}
use Rattle.hail_client.specs.declared.client.Client.{Client}
use Rattle.hail_client.specs.Client.{without_vault}
use Rattle.hail_client.specs.Start.{provider_or_empty}

-- no vault is open, and the next job is the first
abbrev pub closed_client : Client
closed_client = without_vault 1

-- a disk that reads nothing, and four providers that hold nothing
abbrev pub fresh : Devices
fresh = devices (Some []) 0 (replicate 4 empty_provider)

-- a provider of no known state
abbrev pub hidden_provider : Provider
hidden_provider = record { held = None; store_faults = 0; other_faults = 0; fetches = 0 }

-- a disk and four providers of no known state
abbrev pub hidden : Devices
hidden = devices None 0 (replicate 4 hidden_provider)

-- a disk that reads a journal with one file, and six providers that hold nothing
abbrev pub stored_devices : Devices
stored_devices = devices (Some (firm (text one_file))) 0 (replicate 6 empty_provider)

-- the file of that journal
abbrev pub notes : File
notes = record { name = codes "notes.txt"; id = 1; size = 100; profile = 1 }

-- the state at rest over that journal
abbrev pub stored_state : State
stored_state =
    record (opened one_file
    hundred) { providers = provider_or_empty stored_devices.providers; handed = 6; is_open = false }

-- the same with a vault open
abbrev pub stored_open : State
stored_open = record stored_state { is_open = true }

-- a scrub of that file that has done nothing yet
abbrev pub stored_scrub : ScrubView
stored_scrub = record {
  todo = map (λ j. Fetch j 1 0) (upto 6) ++ Work 1 0 ∷ End ∷ [];
  providers = 6;
  objects = object_of (profiled six 1) 1 ∷ [];
  at = Between;
  stripes = 0;
  symbols = replicate 16 0;
  blocks = replicate 16 0;
}

-- the state behind the begin of that scrub
abbrev pub scrubbed_state : State
scrubbed_state = held stored_open 0

-- a setup of four providers, and the second version of the journal
abbrev pub raised_records : List Record
raised_records = Version ∷ four_set_up

-- a disk that reads their text, and four providers that hold nothing
abbrev pub raised_devices : Devices
raised_devices = devices (Some (firm (text raised_records))) 0 (replicate 4 empty_provider)

-- the state at rest over that journal, with a vault open
abbrev pub raised_open : State
raised_open = record (opened raised_records []) {
  providers = provider_or_empty raised_devices.providers;
  handed = 4;
}

-- the state behind the begin of a pack of it
abbrev pub packing_state : State
packing_state = pack_begun raised_open
