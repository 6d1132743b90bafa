use Rattle.std.proofs.Common.{◌∷◌}
use Rattle.std.specs.List.{list_all}
use Rattle.std.proofs.lemmas.Bool.{and_from}
use Rattle.record_defs.specs.Records.{is_in_grammar}
use Rattle.record_codec.specs.Entries.{entry_of}
use Rattle.record_rows.proofs.packing.table_of.Goals as goal

pub loop-row-preserved : goal.loop-row-preserved
loop-row-preserved c =
    let i = c.loop-row.invariant in
    let r = entry_of c.in_ok-entry.entry in (
      r ∷ i.0,
      c.in_default-apply.ensures.ok i.0 i.1,
      (c.in_default-apply.ensures.accepted i.0 i.1, i.2),
      and_from (is_in_grammar r) (list_all is_in_grammar i.0) c.in_ok-entry.ensures.in_grammar.spelled i.3,
    )
