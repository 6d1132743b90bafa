-- A put that is given up behind its begin, since its source failed or has more bytes than a file may have.
--
--   put_stripe records own            == how many bytes a stripe of a put has
--   StopsReading size bytes old new end
--                                     == some bytes were read of the source, of which these are the whole
--                                        stripes; then a read failed, or they were more than a file may have
--   steps_of_part records own bytes   == how many steps store all stripes of these bytes: four moves, and a
--                                        store of each stripe on each provider
--   PartRuns area records name bytes own old new
--                                     == the job of a put of these bytes ran alone over these records and
--                                        devices, as a run of the machine that makes these steps and no more
--   PartLeft area records name bytes own old new
--                                     == what it left: its start is in effect, and each stripe of these bytes
--                                        is stored on every provider, under a number that is not used again
--
-- own is the profile that the put names; None where it has the setup's.
use Rattle.std.specs.Prelude.{◌≡◌, ◌⊎◌, ℕ, ◌+◌, ◌*◌, ◌<◌, ◌≤◌, List, [], ◌∷◌, length, take, Option, None}
use Rattle.std.specs.Option.{option_map}
use Rattle.column_defs.specs.Objects.{stripe_symbols}
use Rattle.device_defs.specs.Faults.{Rose}
use Rattle.device_defs.specs.Images.{EachImage}
use Rattle.device_defs.specs.Told.{then_told}
use Rattle.record_defs.specs.Records.{Record, PutStart, largest_file}
use Rattle.record_defs.specs.Table.{next_id}
use Rattle.record_defs.specs.Areas.{Area, StandsActive}
use Rattle.machine_defs.specs.Jobs.{PutJob}
use Rattle.machine_defs.specs.Begins.{chosen}
use Rattle.machine_defs.specs.Events.{AreBytes}
use Rattle.machine_defs.specs.Setups.{profiled, object_of, stripes_of}
use Rattle.machine_defs.specs.Stands.{StandsForState}
use Rattle.machine_defs.specs.States.{State}
use Rattle.opening_defs.specs.Opened.{AreHanded, IsJustOpened}
use Rattle.command_defs.specs.Seen.{Seen, Ending}
use Rattle.command_defs.specs.Opens.{setup_in_effect}
use Rattle.command_defs.specs.Ran.{Ran, ran_alone, CountsRise, NoFetches}
use Rattle.command_defs.specs.JobRuns.{RunsPart}
use Rattle.command_defs.specs.Jobs.{outside}
use Rattle.command_defs.specs.Puts.{StoresAll}

-- how many bytes a stripe of a put has
abbrev pub put_stripe : List Record → Option ℕ → ℕ
put_stripe records own =
    16 * stripe_symbols (object_of (profiled (setup_in_effect records)
    (chosen (setup_in_effect records) own)) 0)

-- why the source is read no further: a read failed, which ends with 14; or it gave more bytes than a file may
-- have, which ends with 16
abbrev pub StopsFor : ℕ → Seen → Seen → Ending → Type 0
StopsFor count old new end =
    ((end.status ≡ 14) × (count ≤ largest_file) × Rose old.source_faults new.source_faults)
    ⊎ ((end.status ≡ 16) × (count ≡ largest_file + 1))

-- some bytes were read of the source, of which these are the whole stripes, and then no more
pub record StopsReading (size : ℕ) (bytes : List ℕ) (old new : Seen) (end : Ending) : Type 0 where
  pub read : List ℕ
  pub are_bytes : AreBytes read
  pub front : old.source ≡ then_told read new.source
  pub stripes : ℕ
  pub bytes_are : bytes ≡ take (stripes * size) read
  pub whole : length bytes ≡ stripes * size
  pub rest : length read < length bytes + size
  pub cause : StopsFor (length read) old new end
  pub place : end.at ≡ 0
  pub heard : end.heard ≡ []
  pub sink : new.sink ≡ old.sink

-- the records once its start is in effect
abbrev pub after_begin : List Record → List ℕ → List Record
after_begin records name = PutStart (next_id records) name ∷ records

-- how many steps store all stripes of these bytes
abbrev pub steps_of_part : List Record → Option ℕ → List ℕ → ℕ
steps_of_part records own bytes =
    4 + stripes_of (profiled (setup_in_effect records) (chosen (setup_in_effect records) own)) (length bytes)
    * (setup_in_effect records).n

-- a put that ran alone up to its last append: it is a run of the machine from any state just opened over
-- these records and devices, after any number of events, and the devices are those of its last state;
-- outside the text of its records the disk reads as before
pub record PartRan (area : Area) (records : List Record) (name bytes : List ℕ) (own : Option ℕ)
    (old new : Seen) (faults : ℕ) (w : State) (moment : ℕ) : Type 0 where
  pub last : State
  pub runs : RunsPart w moment (PutJob name bytes) own (steps_of_part records own bytes) last
  pub images : StandsForState new.disk last
  pub faults_are : last.disk_faults ≡ new.disk_faults
  pub handed : AreHanded new.providers last
  pub outside_text : option_map (outside area last.journal) new.disk
      ≡ option_map (outside area last.journal) old.disk

-- so it is from every such state and moment, with what the disk's count of faults was once it was opened
pub record PartRuns (area : Area) (records : List Record) (name bytes : List ℕ) (own : Option ℕ)
    (old new : Seen) : Type 0 where
  pub faults : ℕ
  pub before : old.disk_faults ≤ faults
  pub ran : (w : State) (moment : ℕ) → IsJustOpened w area records 1 faults old.providers
      → PartRan area records name bytes own old new faults w moment

-- what it began with, and what it left
abbrev pub ran_part : List Record → List ℕ → Seen → Seen → ℕ → Ran
ran_part records name old new faults =
    ran_alone records old new [] faults (after_begin records name) None

-- what such a put left: providers that it does not use stay as they are
pub record PartLeft (area : Area) (records : List Record) (name bytes : List ℕ) (own : Option ℕ)
    (old new : Seen) : Type 0 where
  pub faults : ℕ
  pub before : old.disk_faults ≤ faults
  pub stored : StoresAll (ran_part records name old new faults) own bytes
  pub fetches : NoFetches (ran_part records name old new faults)
  pub counts : CountsRise (ran_part records name old new faults)
  pub others : (j : ℕ) → (setup_in_effect records).n ≤ j
      → (ran_part records name old new faults).new j ≡ (ran_part records name old new faults).old j
  pub images : EachImage new.disk (λ image. StandsActive image area (after_begin records name))
  pub outside_text : option_map (outside area (after_begin records name)) new.disk
      ≡ option_map (outside area (after_begin records name)) old.disk
