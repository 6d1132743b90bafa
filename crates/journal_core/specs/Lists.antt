-- The records of the program, as plain data with the newest first.
use Rattle.std.specs.Prelude.{List, map}
use Rattle.std.specs.Prelude.{reverse}
use Rattle.record_defs.specs.Records.{Record as Entry}
use Rattle.record_codec.specs.declared.records.Record.{Record}
use Rattle.record_codec.specs.Entries.{entry_of}

-- the plain data of records in the order of writing, the newest first
abbrev pub newest_first : List Record → List Entry
newest_first records = reverse (map entry_of records)
