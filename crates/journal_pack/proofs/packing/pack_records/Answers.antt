use Rattle.journal_pack.proofs.Words.{◌≤◌, ◌^◌, List, subst, sym, ap, ◌∙◌, IsTrue, list_all, Entry, is_in_grammar, with_files, with_due, entries_size}
use Rattle.journal_pack.proofs.Tabled.{packed-folds, have-spellings}
use Rattle.packed_laws.proofs.Spelled.{packed-spelled, packed-size}
use Rattle.journal_pack.proofs.packing.pack_records.Goals as goal

pub returns-clause-table : goal.returns-clause-table
returns-clause-table c =
    let t = c.args.table.now in
    c.in_ok-add_due.ensures.records
    ∙ ap (λ (l : List Entry). with_due t.due l) (c.in_ok-add_files.ensures.records
    ∙ ap (λ (l : List Entry). with_files t.files l) c.in_ok-records.ensures.records)

pub returns-clause-packed : goal.returns-clause-packed
returns-clause-packed c = λ rs is. returns-clause-table c ∙ packed-folds rs c.args.table.now is

pub returns-clause-spelled : goal.returns-clause-spelled
returns-clause-spelled c = λ rs is accepted spelled. have-spellings c.add_due.new.records.items
    (c.in_ok-add_due.ensures.padded (c.in_ok-add_files.ensures.padded c.in_ok-records.ensures.padded))
    (subst (λ (l : List Entry). IsTrue (list_all is_in_grammar l)) (sym (returns-clause-packed c rs is))
    (packed-spelled rs accepted spelled))

pub returns-clause-short : goal.returns-clause-short
returns-clause-short c = λ rs is accepted spelled. subst (λ (l : List Entry). entries_size l ≤ 2 ^ 17)
    (sym (returns-clause-packed c rs is)) (packed-size rs accepted spelled)
