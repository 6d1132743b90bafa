use Rattle.column_codec.proofs.Words.{ap, ◌∙◌, column_of_symbols, bench_object}
use Rattle.std.proofs.Common.{List, ℕ, length}
use Rattle.column_codec.proofs.Places.{written_whole}
use Rattle.column_codec.proofs.bench.Bench.make_column.Goals as goal

pub column_into-requires-clause-symbols : goal.column_into-requires-clause-symbols
column_into-requires-clause-symbols c = ap length c.deref.ensures.value ∙ c.args.self.now.rows_fit

pub column_into-requires-clause-out : goal.column_into-requires-clause-out
column_into-requires-clause-out c = ap length c.deref_mut.ensures.value ∙ c.args.self.now.column_fits

pub invariant_of-self : goal.invariant_of-self
invariant_of-self c =
    let v = c.args.self.now in
    let column =
    written_whole v.column.items c.deref_mut.result.now c.column_into.new.out v.column.len
    c.column_into.auto.out c.deref_mut.ensures.len in
    record {
      code_fits = v.code_fits;
      rows_fit = v.rows_fit;
      column_fits = ap length column ∙ c.column_into.auto.out ∙ ap length c.deref_mut.ensures.value
          ∙ v.column_fits;
      scratch_fits = v.scratch_fits;
      blocks_fit = v.blocks_fit;
    }

pub returns-clause-column : goal.returns-clause-column
returns-clause-column c =
    let v = c.args.self.now in
    written_whole v.column.items c.deref_mut.result.now c.column_into.new.out v.column.len
    c.column_into.auto.out c.deref_mut.ensures.len
    ∙ c.column_into.ensures
    ∙ ap (λ (rows : List ℕ). column_of_symbols (bench_object v) rows c.args.provider c.args.stripe)
    c.deref.ensures.value
