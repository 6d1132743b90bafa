use Rattle.vault.proofs.Words.{◌≤◌, ◌^◌, List, ap, sym, subst, arith, entries_size, IsInGrammar, Kept, IsFoldOf}
use Rattle.std.specs.Prelude.{All}
use Rattle.journal_core.specs.Lists.{newest_first}
use Rattle.record_codec.specs.declared.records.Record.{Record}
use Rattle.vault.proofs.PackBegins.{two-bases, has-setup, spelled, short}
use Rattle.vault.proofs.desk.Desk.new_pack.Goals as goal

pub pack_records-requires-clause-set_up : goal.pack_records-requires-clause-set_up
pack_records-requires-clause-set_up c = rw (← c.table.ensures) at (has-setup c.args.self.now c.requires.at_work)

pub new-requires-clause-area : goal.new-requires-clause-area
new-requires-clause-area c = two-bases c.args.self.now c.requires.at_work

pub new-requires-clause-spelled : goal.new-requires-clause-spelled
new-requires-clause-spelled c = subst (λ (l : List Record). All IsInGrammar l) (sym c.deref.ensures.value)
    (spelled c.args.self.now c.requires.at_work c.in-Ok.records.items
    (λ rs folds. c.in-Ok.ensures.spelled rs (subst (λ (t : Kept). IsFoldOf rs t) (sym c.table.ensures) folds)))

pub new-requires-clause-short : goal.new-requires-clause-short
new-requires-clause-short c =
    let few : entries_size (newest_first c.in-Ok.records.items) ≤ 2 ^ 17 =
    short c.args.self.now c.requires.at_work (newest_first c.in-Ok.records.items)
    (λ rs folds. c.in-Ok.ensures.short rs (subst (λ (t : Kept). IsFoldOf rs t) (sym c.table.ensures) folds)) in
    let same = ap (λ (l : List Record). entries_size (newest_first l)) c.deref.ensures.value in
    omega (arith, few, same)
