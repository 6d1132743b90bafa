-- Concrete values that meet what the laws suppose: a store over four providers that tell what they hold,
-- with one empty file.
--
--   store records                                  == what is seen of devices whose disk reads these records,
--                                                     with nothing loose
--   held_name, held_file, other_name               == the name of the file, the file, and another name
--   set_up_records, held_records                   == the records of a store that was set up, and of one with
--                                                     the file
--   upgraded_records, own_records                  == of one whose journal has its second version, and of one
--                                                     with the file put into it with a profile of its own
--   audited_records, due_records, repaired_records == of a store with no file after an audit, with a repair
--                                                     due, and after it
--   started_records, given_up_store                == of one after the first record of the put, and what is
--                                                     seen where its source failed then
--   put_store, audited_store, repaired_store, upgraded_store, own_store, scrubbed_store
--                                                  == what is seen after a put of the file, that audit, that
--                                                     repair, an upgrade, that put, a scrub of the file
--   packed_bytes filling, packed_store filling     == the bytes of a disk whose second area has the packed
--                                                     records, with this between its switch byte and them, and
--                                                     what is seen after a pack that leaves such bytes
--   hidden_providers                               == four providers that tell nothing
--   reading records bytes                          == devices whose disk reads these records, with such
--                                                     providers, and these bytes in the source
--   small_numbers, key_text, key_devices, ready_store
--                                                  == the numbers of an init, its key, devices before it and
--                                                     after it
--   empty_devices, failed_devices                  == devices whose disk reads nothing, and the same when one
--                                                     call of the disk failed
--   with_sink s bytes                              == what is seen, with these bytes in the sink
--   ends status                                    == an end that heard nothing
--   get_held, get_other                            == two calls over the store: of its file, and of a name
--                                                     that has none
use Rattle.std.specs.Prelude.{ℕ, List, [], ◌∷◌, ◌++◌, replicate, Some, None}
use Rattle.device_defs.specs.Cells.{firm}
use Rattle.device_defs.specs.Providers.{Provider}
use Rattle.record_defs.specs.Records.{Record, Setup, SetUp, PutStart, PutDone, PutDoneIn, Version, AuditStart, AuditDone, RepairDone}
use Rattle.record_defs.specs.Journal.{text}
use Rattle.record_defs.specs.Areas.{A, B, magic_front, entries, text_length}
use Rattle.record_defs.specs.Packed.{packed}
use Rattle.record_defs.specs.Table.{File, file_as}
use Rattle.command_defs.specs.Forms.{Numbers, GetOf}
use Rattle.command_defs.specs.Lines.{ready_line, stored_line, audit_lines, repaired_line, upgraded_line, scrub_lines, packed_line}
use Rattle.command_defs.specs.Seen.{Seen, Ending, nobody}
use Rattle.command_laws.specs.Pieces.{Call}

-- four providers, one of them primary, of which one may be wrong
abbrev pub small_setup : Setup
small_setup =
    record {
      n = 4;
      l = 1;
      b = 1;
      profile = 0;
      rounds = 2;
      picks = 2;
      tolerance = 0;
      master = replicate 32 0;
    }

-- a provider that holds nothing
abbrev pub idle_provider : Provider
idle_provider =
    record { held = Some (λ object stripe. None); store_faults = 0; other_faults = 0; fetches = 0 }

-- four of them
abbrev pub idle_providers : List Provider
idle_providers = idle_provider ∷ idle_provider ∷ idle_provider ∷ idle_provider ∷ []

-- devices whose disk reads these records
abbrev pub store : List Record → Seen
store records = record {
  disk = Some (firm (text records));
  disk_faults = 0;
  providers = idle_providers;
  source = Some [];
  source_faults = 0;
  sink = Some [];
  sink_faults = 0;
}

-- four providers that tell nothing
abbrev pub hidden_providers : List Provider
hidden_providers = nobody ∷ nobody ∷ nobody ∷ nobody ∷ []

-- devices with such providers, and these bytes in the source
abbrev pub reading : List Record → List ℕ → Seen
reading records bytes = record (store records) { providers = hidden_providers; source = Some bytes }

-- devices whose disk reads nothing
abbrev pub empty_devices : Seen
empty_devices = record (store []) { disk = Some [] }

-- the same when a call of the disk failed
abbrev pub failed_devices : Seen
failed_devices = record empty_devices { disk_faults = 1 }

-- the name of the file
abbrev pub held_name : List ℕ
held_name = 97 ∷ []

-- the file
abbrev pub held_file : File
held_file = file_as held_name 1 0 0

-- another name
abbrev pub other_name : List ℕ
other_name = 98 ∷ []

-- the records of a store that was set up
abbrev pub set_up_records : List Record
set_up_records = SetUp small_setup ∷ []

-- and of one with the file
abbrev pub held_records : List Record
held_records = PutDone 1 0 ∷ PutStart 1 held_name ∷ set_up_records

-- of one after the first record of the put
abbrev pub started_records : List Record
started_records = PutStart 1 held_name ∷ set_up_records

-- of one whose journal has its second version
abbrev pub upgraded_records : List Record
upgraded_records = Version ∷ set_up_records

-- and of one with the file put into it with a profile of its own
abbrev pub own_records : List Record
own_records = PutDoneIn 1 0 1 ∷ PutStart 1 held_name ∷ upgraded_records

-- counts of no provider
abbrev pub no_counts : List ℕ
no_counts = replicate 4 0

-- the records after an audit of a store with no file
abbrev pub audited_records : List Record
audited_records = AuditDone 1 0 no_counts ∷ AuditStart 1 ∷ set_up_records

-- the records of a store whose first provider an audit flagged
abbrev pub due_records : List Record
due_records = AuditDone 1 0 (5 ∷ 0 ∷ 0 ∷ 0 ∷ []) ∷ AuditStart 1 ∷ set_up_records

-- and after its repair
abbrev pub repaired_records : List Record
repaired_records = RepairDone 1 ∷ due_records

-- these bytes are in the sink
abbrev pub with_sink : Seen → List ℕ → Seen
with_sink s bytes = record s { sink = Some bytes }

-- seven numbers, and devices with an empty disk whose source spells a key of zeros
abbrev pub small_numbers : Numbers
small_numbers = record { n = 4; l = 1; b = 1; profile = 0; rounds = 2; picks = 2; tolerance = 0 }

-- the spelling of a key of zeros
abbrev pub key_text : List ℕ
key_text = replicate 64 48

-- an empty disk, and a source that spells that key
abbrev pub key_devices : Seen
key_devices = record empty_devices { source = Some key_text }

-- what is seen after an init with them
abbrev pub ready_store : Seen
ready_store = with_sink (store set_up_records) ready_line

-- what is seen after the put of the file, the audit and the repair
abbrev pub put_store : Seen
put_store = with_sink (store held_records) (stored_line held_name 0)

-- what is seen after the put whose source failed behind its begin
abbrev pub given_up_store : Seen
given_up_store = record (store started_records) { source_faults = 1 }

-- what is seen after the audit
abbrev pub audited_store : Seen
audited_store = with_sink (store audited_records) (audit_lines 0 1 0 no_counts)

-- what is seen after the repair
abbrev pub repaired_store : Seen
repaired_store = with_sink (store repaired_records) (repaired_line 1)

-- what is seen after the upgrade
abbrev pub upgraded_store : Seen
upgraded_store = with_sink (store upgraded_records) upgraded_line

-- what is seen after the put with a profile of its own
abbrev pub own_store : Seen
own_store = with_sink (store own_records) (stored_line held_name 0)

-- what is seen after a scrub of the store with the file
abbrev pub scrubbed_store : Seen
scrubbed_store = with_sink (store held_records) (scrub_lines 0 no_counts no_counts)

-- the bytes of a disk whose second area has the packed records, with this between its switch byte and them
abbrev pub packed_bytes : List ℕ → List ℕ
packed_bytes filling = (magic_front ++ 50 ∷ filling) ++ (entries (packed upgraded_records) ++ 0 ∷ [])

-- what is seen after a pack of the store whose journal has its second version
abbrev pub packed_store : List ℕ → Seen
packed_store filling = record (store upgraded_records) {
  disk = Some (firm (packed_bytes filling));
  sink = Some (packed_line (text_length A upgraded_records) (text_length B (packed upgraded_records)));
}

-- an end that heard nothing
abbrev pub ends : ℕ → Ending
ends status = record { status = status; at = 0; heard = [] }

-- a get of the file
abbrev pub get_held : Call
get_held =
    record { command = GetOf held_name; old = store held_records; new = store held_records; end = ends 0 }

-- a get of a name that has none
abbrev pub get_other : Call
get_other =
    record { command = GetOf other_name; old = store held_records; new = store held_records; end = ends 3 }
