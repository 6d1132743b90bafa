-- The packed journal of a table.
--
--   packed_table t == the records of the packed journal, the newest first, from what a table keeps
use Rattle.std.specs.Prelude.{List, ◌∷◌}
use Rattle.record_defs.specs.Records.{Record, Version, Resume}
use Rattle.record_defs.specs.Packed.{with_files, with_due, with_setup}
use Rattle.vault_table.specs.Values.{Kept, id_after}

-- the records of a packed journal: the setup, the version, the next numbers, each file in effect, and the due
-- audit if there is one
abbrev pub packed_table : Kept → List Record
packed_table t =
    with_due t.due (with_files t.files
    (Resume (id_after t) t.next_audit ∷ Version ∷ with_setup t.setup))
