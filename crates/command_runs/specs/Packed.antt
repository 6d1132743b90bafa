-- Devices before and after a pack of the store with the file, whose journal has its second version: the
-- packed records stand in the second area of the disk.
--
--   packed_records         == the records that it leaves
--   IsFilling filling      == so many bytes lie between the first area's text and the second area
--   in_second filling      == the bytes of the disk: the text of before, with the byte that names the second
--                             area, these, and the packed text
--   packed_store filling   == after the pack
--   packed_kept filling    == before the next command
--   fetched_hold           == the providers once each was fetched from
--   got_packed filling     == after a get of the file then
--   pack_call, get_packed  == the two calls, one after the other
use Rattle.std.specs.Prelude.{◌≡◌, ℕ, ◌-◌, ◌^◌, List, [], ◌∷◌, ◌++◌, Some, length}
use Rattle.record_defs.specs.Packed.{packed}
use Rattle.command_runs.specs.Words.{firm, Provider, Record, magic_front, entries, GetOf, PackJournal, packed_line, Seen, with_sink, ends, Call, byte}
use Rattle.command_runs.specs.Devices.{named, byte_upgraded_records, upgraded_kept, holds, fetched, own_blocks_heard, ends_hearing}

-- the packed records
abbrev pub packed_records : List Record
packed_records = packed byte_upgraded_records

-- the first text ends at 80, and the second area begins at 2^23
abbrev pub IsFilling : List ℕ → Type 0
IsFilling filling = length filling ≡ 2 ^ 23 - 80

-- the first text, with the byte that names the second area
abbrev pub named_second : List ℕ
named_second = magic_front ++ 50 ∷ (entries byte_upgraded_records ++ 0 ∷ [])

-- the packed text
abbrev pub second_text : List ℕ
second_text = entries packed_records ++ 0 ∷ []

-- the bytes of the disk
abbrev pub in_second : List ℕ → List ℕ
in_second filling = (named_second ++ filling) ++ second_text

-- the store after the pack, and before the next command
abbrev pub packed_kept : List ℕ → Seen
packed_kept filling = record upgraded_kept { disk = Some (firm (in_second filling)) }

-- the pack is done, and tells the two lengths
abbrev pub packed_store : List ℕ → Seen
packed_store filling = with_sink (packed_kept filling) (packed_line 80 81)

-- the providers once fetched from
abbrev pub fetched_hold : List Provider
fetched_hold = fetched (holds 0) ∷ fetched (holds 1) ∷ fetched (holds 2) ∷ fetched (holds 3) ∷ []

-- a get is done, and the byte is in the sink
abbrev pub got_packed : List ℕ → Seen
got_packed filling = with_sink (record (packed_kept filling) { providers = fetched_hold }) byte

-- the call of the pack
abbrev pub pack_call : List ℕ → Call
pack_call filling = record {
  command = PackJournal;
  old = upgraded_kept;
  new = packed_store filling;
  end = ends 0;
}

-- the call of the get
abbrev pub get_packed : List ℕ → Call
get_packed filling = record {
  command = GetOf named;
  old = packed_kept filling;
  new = got_packed filling;
  end = ends_hearing 0 own_blocks_heard;
}
