-- How a table is kept.
use Rattle.std.specs.Prelude.{suc, ◌+◌, ◌^◌, ◌<◌, ◌≤◌, IsTrue, IfSome, length, map, vec_capacity}
use Rattle.std.specs.Option.{option_map}
use Rattle.record_defs.specs.Records.{most_files}
use Rattle.record_defs.specs.Table.{are_ordered}
use Rattle.record_codec.specs.Entries.{IsPadded}
use Rattle.vault_table.specs.declared.table.Table.TheInside.{Inside}
use Rattle.vault_table.specs.Values.{Kept, file_of_entry, setup_of_pair, due_of_pair}

-- the plain data of a table
abbrev pub kept_of : Inside → Kept
kept_of a = record {
  setup = option_map setup_of_pair a.setup;
  version = a.version;
  files = map file_of_entry a.files.items;
  passed = a.passed;
  started = a.started.names;
  next_audit = a.next_audit;
  running = a.running;
  due = option_map due_of_pair a.due;
  spare = a.started.spare;
}

-- The files stand in byte order of their names, with room for 1,024, and the next id is a number of eight
-- bytes.
pub record IsTable (a : Inside) : Type 0 where
  pub ordered : IsTrue (are_ordered (map file_of_entry a.files.items))
  pub room : most_files ≤ vec_capacity a.files
  pub below : suc (a.passed + length a.started.names) < 2 ^ 64
  pub padded : IfSome a.due (λ x. IsPadded x.1)
