use Rattle.std.specs.Prelude.{IsTrue, List}
use Rattle.std.specs.List.{list_all}
use Rattle.record_defs.specs.Records.{Record, is_in_grammar}
use Rattle.record_defs.specs.Acceptance.{AreAccepted}
use Rattle.vault_table.specs.Values.{IsFoldOf}
use Rattle.record_rows.proofs.packing.table_of.Given as goal

abbrev pub invariant-loop-row : goal.invariant-loop-row
invariant-loop-row l =
    (rs : List Record) × IsFoldOf rs l.table × AreAccepted rs × IsTrue (list_all is_in_grammar rs)
