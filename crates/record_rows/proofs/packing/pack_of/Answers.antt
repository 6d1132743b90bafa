use Rattle.std.specs.Prelude.{All, List}
use Rattle.std.proofs.Common.{subst, sym}
use Rattle.record_codec.specs.declared.records.Record.{Record}
use Rattle.record_codec.specs.Entries.{IsInGrammar}
use Rattle.record_rows.proofs.packing.pack_of.Goals as goal

pub new-requires-clause-spelled : goal.new-requires-clause-spelled
new-requires-clause-spelled c =
    let t = c.in_ok-table.ensures in
    subst (λ (l : List Record). All IsInGrammar l) (sym c.deref.ensures.value)
    (c.in-Ok.ensures.spelled t.0 t.1 t.2 t.3)
