-- How a put goes that reads its source stripe by stripe.
--
--   IsStripe size          == a stripe may have so many bytes
--   IsSourceSeen seen left faults
--                          == what is seen of the source, and counted of its faults
--   IsBegun v d size bytes == vault and devices stand for a state in which a put of these bytes has just
--                             begun, whose stripes have so many bytes
--   StreamsTo first size old d streamed new e was left
--                          == how a stream goes that was just begun, of whose source these first bytes were
--                             read: it goes so for each put whose bytes are those that were read in all, or
--                             where it is given up the whole stripes of them
--   IsUnbegunOver area records name own why was left
--                          == why a put over these records did not begin, by what it had read of its source
--   StreamsOver area records name own streamed old new
--                          == how a put goes over these records, as a run of the machine and by what it left
--
-- own is the profile that a put names; None where it has the setup's.
use Rattle.std.specs.Prelude.{◌≡◌, ℕ, ◌+◌, ◌*◌, ◌<◌, ◌≤◌, List, [], ◌++◌, length, take, Option, None, IfSome}
use Rattle.device_defs.specs.Faults.{Rose}
use Rattle.record_defs.specs.Records.{Record, largest_file}
use Rattle.record_defs.specs.Areas.{Area}
use Rattle.machine_defs.specs.Jobs.{PutJob}
use Rattle.machine_defs.specs.Begins.{chosen}
use Rattle.machine_defs.specs.States.{State, setup_in}
use Rattle.command_defs.specs.Seen.{Seen, ReadsFront}
use Rattle.command_defs.specs.Refusals as commands
use Rattle.command_defs.specs.Commands.{ReadsWithin}
use Rattle.command_defs.specs.Puts.{MayHaveEnd}
use Rattle.command_defs.specs.GivenUp.{put_stripe, PartRuns, PartLeft}
use Rattle.vault_core.specs.declared.wish.BeginFault.{BeginFault}
use Rattle.vault_core.specs.Streams.{stripe_size}
use Rattle.vault.specs.declared.turn.Ended.{Ended}
use Rattle.vault.specs.declared.vault.Vault.{Vault}
use Rattle.vault_open.specs.Devices.{Devices}
use Rattle.vault.specs.Stands.{Stands}
use Rattle.command_jobs.specs.declared.stream.Streamed.{Streamed}
use Rattle.command_jobs.specs.declared.stream.Streamed.TheVariants as streamed
use Rattle.command_jobs.specs.declared.stream.Unbegun.{Unbegun}
use Rattle.command_jobs.specs.declared.stream.Unbegun.TheVariants as unbegun
use Rattle.command_jobs.specs.Going.{IsOnly, OnWay, EndsEarly}
use Rattle.command_jobs.specs.Ends.{NoFaultUndone, IsRefusedOver, EndsOver}

-- a stripe may have so many bytes: some symbols of 16 bytes each, and no more than a file
pub record IsStripe (size : ℕ) : Type 0 where
  pub symbols : ℕ
  pub size_is : size ≡ 16 * symbols
  pub some : 0 < size
  pub most : size ≤ largest_file

-- what is seen of the source, and counted of its faults
pub record IsSourceSeen (seen : Seen) (left : Option (List ℕ)) (faults : ℕ) : Type 0 where
  pub left_is : seen.source ≡ left
  pub faults_are : seen.source_faults ≡ faults

-- a put of these bytes has just begun
pub record IsBegun (v : Vault) (d : Devices) (size : ℕ) (bytes : List ℕ) : Type 0 where
  pub start : State
  pub name : List ℕ
  pub own : Option ℕ
  pub state : State
  pub only : IsOnly start (PutJob name bytes) own state
  pub stands : Stands v d state
  pub place : only.job.place ≡ 0
  pub size_is : size ≡ stripe_size (setup_in start) (chosen (setup_in start) own)

-- the stream ran to its end. Where it was open then, so many stripes were given, and it ended before they
-- were stored; where it was not, the source is at its end.
pub record StreamEnds (first : List ℕ) (size : ℕ) (old : Vault) (d : Devices) (ended : Ended) (read : ℕ)
    (new : Vault) (e : Devices) (was left : Option (List ℕ)) : Type 0 where
  pub more : List ℕ
  pub reads : ReadsFront was left more
  pub read_is : read ≡ length (first ++ more)
  pub few : read ≤ largest_file
  pub told : Option ℕ
  pub given : IfSome told (λ stripes. stripes * size ≤ read)
  pub closed : told ≡ None → IfSome left (λ bytes. bytes ≡ [])
  pub goes : (start w : State) (name : List ℕ) (own : Option ℕ) (moment : ℕ)
      → (only : IsOnly start (PutJob name (first ++ more)) own w) → only.job.place ≡ 0 → Stands old d w
      → EndsEarly start (PutJob name (first ++ more)) own w moment told ended new d e

-- the stream was given up, once it had stored all whole stripes of the bytes that were read
pub record StreamStops (first : List ℕ) (size : ℕ) (old : Vault) (d e : Devices)
    (was left : Option (List ℕ)) (stops : ℕ → Type 0) : Type 0 where
  pub more : List ℕ
  pub reads : ReadsFront was left more
  pub stripes : ℕ
  pub whole : stripes * size ≤ length (first ++ more)
  pub short : length (first ++ more) < stripes * size + size
  pub few : stripes * size ≤ largest_file
  pub cause : stops (length (first ++ more))
  pub mid : Vault
  pub goes : (start w : State) (name : List ℕ) (own : Option ℕ) (moment : ℕ)
      → (only : IsOnly start (PutJob name (take (stripes * size) (first ++ more))) own w)
      → only.job.place ≡ 0 → Stands old d w
      → (way : OnWay start (PutJob name (take (stripes * size) (first ++ more))) own w moment mid d e)
      × (way.only.job.place ≡ 4 + stripes * (setup_in start).n)

-- how a stream goes; it is given up where its source failed, or gave more bytes than a file may have
abbrev pub StreamsTo : List ℕ → ℕ → Vault → Devices → Streamed → Vault → Devices → Option (List ℕ)
    → Option (List ℕ) → Type 0
StreamsTo first size old d (streamed.Ended ended length) new e was left =
    StreamEnds first size old d ended length new e was left
StreamsTo first size old d streamed.SourceFault new e was left =
    StreamStops first size old d e was left (λ count. count ≤ largest_file)
StreamsTo first size old d streamed.TooLong new e was left =
    StreamStops first size old d e was left (λ count. count ≡ largest_file + 1)

-- the put ran to its end, its file the bytes that were read
pub record PutEnds (area : Area) (records : List Record) (name : List ℕ) (own : Option ℕ) (ended : Ended)
    (read : ℕ) (old new : Seen) : Type 0 where
  pub bytes : List ℕ
  pub reads : ReadsFront old.source new.source bytes
  pub read_is : length bytes ≡ read
  pub few : length bytes ≤ largest_file
  pub over : EndsOver area records (PutJob name bytes) own ended old new
  pub whole : MayHaveEnd records over.left.after over.left.doubt name (length bytes) own
      → IfSome new.source (λ left. left ≡ [])

-- the put was given up, its file the whole stripes of the bytes that were read
pub record PutStops (area : Area) (records : List Record) (name : List ℕ) (own : Option ℕ) (old new : Seen)
    (stops : ℕ → Type 0) : Type 0 where
  pub bytes : List ℕ
  pub unrefused : commands.refusal_over area records (PutJob name bytes) own ≡ None
  pub read : List ℕ
  pub reads : ReadsFront old.source new.source read
  pub stripes : ℕ
  pub bytes_are : bytes ≡ take (stripes * put_stripe records own) read
  pub whole : length bytes ≡ stripes * put_stripe records own
  pub rest : length read < length bytes + put_stripe records own
  pub cause : stops (length read)
  pub runs : PartRuns area records name bytes own old new
  pub left : PartLeft area records name bytes own old new
  pub counts : NoFaultUndone old new

-- how the put goes
abbrev pub StreamsOver : Area → List Record → List ℕ → Option ℕ → Streamed → Seen → Seen → Type 0
StreamsOver area records name own (streamed.Ended ended length) old new =
    PutEnds area records name own ended length old new
StreamsOver area records name own streamed.SourceFault old new =
    PutStops area records name own old new
    (λ count. (count ≤ largest_file) × Rose old.source_faults new.source_faults)
StreamsOver area records name own streamed.TooLong old new =
    PutStops area records name own old new (λ count. count ≡ largest_file + 1)

-- the begin was refused, once these bytes were read, no more than a stripe has
pub record IsRefusedRead (area : Area) (records : List Record) (name : List ℕ) (own : Option ℕ)
    (why : BeginFault) (was left : Option (List ℕ)) : Type 0 where
  pub bytes : List ℕ
  pub reads : ReadsFront was left bytes
  pub few : length bytes ≤ largest_file
  pub one : length bytes ≤ put_stripe records own
  pub refused : IsRefusedOver area records (PutJob name bytes) own why

-- why a put over these records did not begin: a read failed within its first stripe, or nothing was read where
-- there was no memory for one
abbrev pub IsUnbegunOver : Area → List Record → List ℕ → Option ℕ → Unbegun → Option (List ℕ)
    → Option (List ℕ) → Type 0
IsUnbegunOver area records name own unbegun.SourceFault was left = ReadsWithin 0 (put_stripe records own) was left
IsUnbegunOver area records name own unbegun.Memory was left = left ≡ was
IsUnbegunOver area records name own (unbegun.Refused why) was left =
    IsRefusedRead area records name own why was left
