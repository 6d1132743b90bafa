-- Devices before and after the commands: a store over four providers, one of them primary, of which one may
-- be wrong.
--
--   reading_devices records providers == what is seen of devices whose disk reads these records, with nothing
--                                        loose, and of these providers
--   each p                            == of four providers, by their numbers
--   named, byte                       == the name and the bytes of the file that is put
--   four_records, byte_records, dropped_records, byte_audited_records, byte_repaired_records
--                                     == of a store that was set up, with the file, after its drop, and after
--                                        an audit that flags provider 2 and its repair
--   byte_upgraded_records, byte_own_records
--                                     == of the store with the file after an upgrade, and with another file
--                                        then put with a profile of its own
--   holds j                           == a provider that holds its own block of the file, and nothing else
--   disk_failed s                     == what is seen, and the disk's count of faults rose: where the disk
--                                        wrote the last record of a command, and told that it failed
use Rattle.std.specs.Prelude.{ℕ, true, ◌++◌, ◌==◌, List, [], ◌∷◌, map, replicate, slice_set, Some, None, if◌then◌else◌}
use Rattle.column_defs.specs.Challenges.{challenge_of, right_answer}
pub use Rattle.turn_laws.specs.Turned.{each}
use Rattle.command_runs.specs.Words.{columns, firm, one_more, Provider, four, before_gate, Record, SetUp, PutStart, PutDone, PutDoneIn, Drop, AuditStart, AuditDone, RepairDone, Version, spelling, empty_provider, Entry, Given, Fetched, Answered, profiled, object_of, with_provider, Numbers, stored_line, dropped_line, audit_lines, repaired_line, upgraded_line, scrub_lines, Seen, Ending, nobody, store, with_sink, other_name, stored, removed, counts, byte}

-- ---- what is seen

-- devices whose disk reads these records
abbrev pub reading_devices : List Record → List Provider → Seen
reading_devices records providers = record (store records) { providers = providers }

-- these bytes are in the source
abbrev pub with_source : Seen → List ℕ → Seen
with_source s bytes = record s { source = Some bytes }

-- a provider that was fetched from
abbrev pub fetched : Provider → Provider
fetched p = record p { fetches = one_more p.fetches }

-- each provider was
abbrev pub once_fetched : Seen → Seen
once_fetched s = record s { providers = map fetched s.providers }

-- the disk's count of faults rose
abbrev pub disk_failed : Seen → Seen
disk_failed s = record s { disk_faults = 1 }

-- an entry of the one job
abbrev pub heard : Given → Entry
heard gift = record { job = 1; given = gift }

-- an end that heard these entries
abbrev pub ends_hearing : ℕ → List Entry → Ending
ends_hearing status heard = record { status = status; at = 0; heard = heard }

-- and one that speaks of a place
abbrev pub ends_at : ℕ → ℕ → Ending
ends_at status place = record { status = status; at = place; heard = [] }

-- ---- records

-- the file: its name is "a"
abbrev pub named : List ℕ
named = 97 ∷ []

-- the records of a store that was set up
abbrev pub four_records : List Record
four_records = SetUp four ∷ []

-- after the first append of the put
abbrev pub started_records : List Record
started_records = PutStart 1 named ∷ four_records

-- with the file
abbrev pub byte_records : List Record
byte_records = PutDone 1 1 ∷ started_records

-- after its drop
abbrev pub dropped_records : List Record
dropped_records = Drop named ∷ byte_records

-- after such an audit
abbrev pub byte_audited_records : List Record
byte_audited_records = AuditDone 1 0 counts ∷ AuditStart 1 ∷ byte_records

-- and after its repair
abbrev pub byte_repaired_records : List Record
byte_repaired_records = RepairDone 1 ∷ byte_audited_records

-- after the put of another file beside the first
abbrev pub both_records : List Record
both_records = PutDone 2 1 ∷ PutStart 2 other_name ∷ byte_records

-- after the upgrade
abbrev pub byte_upgraded_records : List Record
byte_upgraded_records = Version ∷ byte_records

-- and after the put, at profile 1; the setup's profile is 0
abbrev pub byte_own_records : List Record
byte_own_records = PutDoneIn 2 1 1 ∷ PutStart 2 other_name ∷ byte_upgraded_records

-- ---- providers

-- the block of a provider
abbrev pub own_block : ℕ → List ℕ
own_block j = columns (object_of four 1) byte j 0

-- a provider with its block
abbrev pub given_block : ℕ → Provider → Provider
given_block j p = stored 1 0 (own_block j) p

-- a provider that holds its block, and nothing else
abbrev pub holds : ℕ → Provider
holds j = given_block j empty_provider

-- a provider whose store failed
abbrev pub failed_store : Provider → Provider
failed_store p = record p { store_faults = 1 }

-- providers that hold nothing
abbrev pub none_hold : List Provider
none_hold = each (λ j. empty_provider)

-- each of which holds its block
abbrev pub all_hold : List Provider
all_hold = each holds

-- after the repair: all were fetched from, and provider 2 has its block again
abbrev pub mends : ℕ → Provider
mends = with_provider (λ j. fetched (holds j)) 2 (given_block 2 (fetched empty_provider))

-- ---- a put of the file: before it, done, with a store that failed, cut off by the disk, and not made

-- the put is not made, and the store is as it was: without files
abbrev pub put_unmade : Seen
put_unmade = reading_devices four_records none_hold

-- before the put: the byte is in the source
abbrev pub to_put : Seen
to_put = with_source put_unmade byte

-- the put is done
abbrev pub byte_stored : Seen
byte_stored = with_sink (reading_devices byte_records all_hold) (stored_line named 1)

-- its first store failed
abbrev pub put_failed : Seen
put_failed = reading_devices started_records
    (each (with_provider (λ j. empty_provider) 0 (failed_store empty_provider)))

-- the disk failed at the last record
abbrev pub put_cut : Seen
put_cut = disk_failed (reading_devices byte_records all_hold)

-- or it left the gate of the last record loose: a stop then brings it into effect, or not
abbrev pub put_torn : Seen
put_torn = record put_cut {
  disk = Some (firm (before_gate started_records) ++ (1, true) ∷ firm (spelling (PutDone 1 1) ++ 0 ∷ []));
}

-- what the next command finds where it did not
abbrev pub put_gone : Seen
put_gone = record put_cut {
  disk = Some (firm (before_gate started_records ++ 0 ∷ (spelling (PutDone 1 1) ++ 0 ∷ [])));
}

-- ---- a drop of it

-- before the drop: the file is in effect, and each provider holds its block
abbrev pub byte_kept : Seen
byte_kept = reading_devices byte_records all_hold

-- what the next command finds after it
abbrev pub seen_after_drop : Seen
seen_after_drop = reading_devices dropped_records (each (λ j. removed 1 (holds j)))

-- the drop is done
abbrev pub dropped : Seen
dropped = with_sink seen_after_drop (dropped_line named)

-- the disk failed at the drop's record
abbrev pub drop_cut : Seen
drop_cut = disk_failed (reading_devices dropped_records all_hold)

-- ---- a get and a repair where all blocks are lost

-- the file is in effect, and no provider holds a block of it
abbrev pub all_lost : Seen
all_lost = reading_devices byte_records none_hold

-- what a get leaves that found nothing
abbrev pub found_lost : Seen
found_lost = once_fetched all_lost

-- the audit is in effect, a repair is due, and no provider holds a block
abbrev pub due_lost : Seen
due_lost = reading_devices byte_audited_records none_hold

-- what a repair leaves that found nothing
abbrev pub repair_lost : Seen
repair_lost = once_fetched due_lost

-- the fetches gave nothing
abbrev pub no_blocks : List Entry
no_blocks = each (λ j. heard (Fetched j 1 0 None))

-- ---- one block is lost: an audit finds it, a repair writes it anew or fails to, and a get gives the file

-- the file is in effect, and provider 2 has lost its block
abbrev pub damaged : Seen
damaged = reading_devices byte_records (each (with_provider holds 2 empty_provider))

-- before the repair: it is due
abbrev pub due : Seen
due = reading_devices byte_audited_records damaged.providers

-- the audit is done
abbrev pub byte_audited : Seen
byte_audited = with_sink due (audit_lines 0 1 0 counts)

-- the disk failed at the audit's last record
abbrev pub audit_cut : Seen
audit_cut = disk_failed due

-- before the get: the file is whole again
abbrev pub mended : Seen
mended = reading_devices byte_repaired_records (each mends)

-- the repair is done
abbrev pub repaired : Seen
repaired = with_sink mended (repaired_line 1)

-- the disk failed at the repair's record
abbrev pub repair_cut : Seen
repair_cut = disk_failed mended

-- its store on provider 2 failed, and no record was written
abbrev pub repair_failed : Seen
repair_failed = reading_devices byte_audited_records
    (each (with_provider mends 2 (failed_store (fetched empty_provider))))

-- the get is done, and the byte is in the sink
abbrev pub got : Seen
got = with_sink (once_fetched mended) byte

-- the audit heard the right answers to the one challenge, but for that of provider 2, which gave none
abbrev pub answers_heard : List Entry
answers_heard = each (λ j. heard (Answered j 1 0 (if j == 2 then None else right_answer (object_of four 1)
    byte j (challenge_of (object_of four 1) 1 1 1 0))))

-- the get heard each provider's own block
abbrev pub own_blocks_heard : List Entry
own_blocks_heard = each (λ j. heard (Fetched j 1 0 (Some (own_block j))))

-- ---- a symbol of provider 0 is altered and the block of provider 2 lost: a scrub mends both, or fails

-- the block of provider 0, with its first symbol altered
abbrev pub altered_block : List ℕ
altered_block = slice_set (own_block 0) 0 5

-- a provider that holds it
abbrev pub holds_altered : Provider
holds_altered = stored 1 0 altered_block empty_provider

-- before the scrub: the file is in effect
abbrev pub two_damaged : Seen
two_damaged = reading_devices byte_records
    (each (with_provider (with_provider holds 2 empty_provider) 0 holds_altered))

-- the symbols and the blocks that differ, of each provider: one symbol of one, and all six of another
abbrev pub symbols_off : List ℕ
symbols_off = 1 ∷ 0 ∷ 6 ∷ 0 ∷ []

-- the blocks
abbrev pub blocks_off : List ℕ
blocks_off = 1 ∷ 0 ∷ 1 ∷ 0 ∷ []

-- the scrub is done: all providers were fetched from, and the two have their blocks again
abbrev pub scrubbed : Seen
scrubbed = with_sink (reading_devices byte_records
    (each (with_provider mends 0 (given_block 0 (fetched holds_altered))))) (scrub_lines 1 symbols_off
    blocks_off)

-- its store on provider 0 failed
abbrev pub scrub_failed : Seen
scrub_failed = reading_devices byte_records (each (with_provider (with_provider mends 2 (fetched
    empty_provider)) 0 (failed_store (fetched holds_altered))))

-- a scrub of the store in which provider 2 has lost its block is done
abbrev pub swept : Seen
swept = with_sink (reading_devices byte_records (each mends))
    (scrub_lines 1 (0 ∷ 0 ∷ 6 ∷ 0 ∷ []) (0 ∷ 0 ∷ 1 ∷ 0 ∷ []))

-- before a get after either: by then provider 0 has lost its block
abbrev pub robbed_later : Seen
robbed_later = reading_devices byte_records (each (with_provider mends 0 (fetched empty_provider)))

-- that get is done, and the byte is in the sink
abbrev pub got_later : Seen
got_later = with_sink (once_fetched robbed_later) byte

-- it heard the own blocks of the others
abbrev pub later_heard : List Entry
later_heard = each (λ j. heard (Fetched j 1 0 (if j == 0 then None else Some (own_block j))))

-- ---- refusals and faults

-- no provider is handed in
abbrev pub deserted : Seen
deserted = reading_devices byte_records []

-- the disk reads twelve zeros
abbrev pub scrambled : Seen
scrambled = record byte_kept { disk = Some (firm (replicate 12 0)) }

-- devices that tell nothing: so they are before a command
abbrev pub all_hidden : Seen
all_hidden =
    record (reading_devices [] (each (λ j. nobody))) { disk = None; source = None; sink = None }

-- and after it: each provider was fetched from
abbrev pub hidden_fetched : Seen
hidden_fetched = once_fetched all_hidden

-- numbers of a setup, and some that are none
abbrev pub good_numbers : Numbers
good_numbers = record { n = 4; l = 1; b = 1; profile = 0; rounds = 1; picks = 1; tolerance = 0 }

-- of no setup: all four providers would be primary
abbrev pub bad_numbers : Numbers
bad_numbers = record good_numbers { l = 4 }

-- ---- a put of another file beside the first

-- before the other put
abbrev pub to_put_other : Seen
to_put_other = with_source byte_kept byte

-- the other put is done, and each provider holds its blocks of both files
abbrev pub stored_other : Seen
stored_other = with_sink (reading_devices both_records (each (λ j. stored 2 0
    (columns (object_of four 2) byte j 0) (holds j)))) (stored_line other_name 1)

-- ---- an upgrade of the store with the file, and then a put of another file with a profile of its own

-- before a second upgrade
abbrev pub upgraded_kept : Seen
upgraded_kept = reading_devices byte_upgraded_records all_hold

-- the upgrade is done
abbrev pub byte_upgraded : Seen
byte_upgraded = with_sink upgraded_kept upgraded_line

-- the disk failed at the upgrade's record
abbrev pub upgrade_cut : Seen
upgrade_cut = disk_failed upgraded_kept

-- before the put
abbrev pub to_put_own : Seen
to_put_own = with_source upgraded_kept byte

-- the put is done, and each provider holds its blocks of both files
abbrev pub stored_own : Seen
stored_own = with_sink (reading_devices byte_own_records (each (λ j. stored 2 0
    (columns (object_of (profiled four 1) 2) byte j 0) (holds j)))) (stored_line other_name 1)
