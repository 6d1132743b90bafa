use Rattle.std.proofs.Common.{ap, ◌∙◌, length}
use Rattle.column_codec.proofs.Places.{written_whole}
use Rattle.column_codec.proofs.bench.Bench.take_stripe.Goals as goal

pub symbols_into-requires : goal.symbols_into-requires
symbols_into-requires c = ap length c.deref_mut.ensures.value ∙ c.args.self.now.rows_fit

pub invariant_of-self : goal.invariant_of-self
invariant_of-self c =
    let v = c.args.self.now in
    let rows =
    written_whole v.rows.items c.deref_mut.result.now c.symbols_into.new.rows v.rows.len
    c.symbols_into.auto.rows c.deref_mut.ensures.len in
    record {
      code_fits = v.code_fits;
      rows_fit = ap length rows ∙ c.symbols_into.auto.rows ∙ ap length c.deref_mut.ensures.value ∙ v.rows_fit;
      column_fits = v.column_fits;
      scratch_fits = v.scratch_fits;
      blocks_fit = v.blocks_fit;
    }

pub returns-clause-rows : goal.returns-clause-rows
returns-clause-rows c =
    let v = c.args.self.now in
    written_whole v.rows.items c.deref_mut.result.now c.symbols_into.new.rows v.rows.len
    c.symbols_into.auto.rows c.deref_mut.ensures.len
    ∙ c.symbols_into.ensures
