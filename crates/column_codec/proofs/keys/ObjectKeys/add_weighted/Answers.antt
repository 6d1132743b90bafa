use Rattle.column_codec.proofs.Words.{◌∙◌, ap, get_or, nim_add, nim_mul}
use Rattle.column_codec.proofs.KeptLemmas.{length-tabled, tabled-at}
use Rattle.column_codec.proofs.keys.ObjectKeys.add_weighted.Goals as goal

pub of-table-requires-clause-all : goal.of-table-requires-clause-all
of-table-requires-clause-all c =
    let keys = c.args.self.now in
    length-tabled keys.file.shape.n keys.file.shape.l keys.weights c.in-Some.tables
    (keys.are_tabled c.in-Some.tables c.in-Some.is)

pub returns-in-Some : goal.returns-in-Some
returns-in-Some c = λ i below.
    let keys = c.args.self.now in
    let table = c.of-table.ensures
    ∙ tabled-at keys.file.shape.n keys.file.shape.l c.args.provider c.args.primary keys.weights
    c.in-Some.tables (keys.are_tabled c.in-Some.tables c.in-Some.is)
    c.requires.secondary c.requires.provider c.requires.other c.requires.primary in
    c.add_differences_by.ensures i below
    ∙ ap (λ w. nim_add (get_or c.args.out.now i 0)
    (nim_mul w (nim_add (get_or c.args.from.now i 0) (get_or c.args.first.now i 0)))) table
