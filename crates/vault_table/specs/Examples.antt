-- A table for the worked rows.
use Rattle.std.specs.Prelude.{[], ◌∷◌, codes, None, Some}
use Rattle.record_defs.specs.Table.{file_as}
use Rattle.record_defs.specs.Examples.{four}
use Rattle.vault_table.specs.Values.{Kept}

-- the table of a store with one file, of two puts under one name, and a due repair, whose journal has its
-- second version
abbrev pub raised_table : Kept
raised_table = record {
  setup = Some four;
  version = 2;
  files = file_as (codes "a") 2 5 0 ∷ [];
  passed = 0;
  started = None ∷ None ∷ [];
  next_audit = 2;
  running = None;
  due = Some (record { number = 1; counts = 0 ∷ 0 ∷ 1 ∷ 0 ∷ [] });
  spare = 0;
}
