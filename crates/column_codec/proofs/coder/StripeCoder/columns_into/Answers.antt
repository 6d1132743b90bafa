use Rattle.column_codec.proofs.Words.{◌∙◌, arith, column_of_symbols, shaped_object}
use Rattle.std.proofs.Common.{ℕ}
use Rattle.column_codec.proofs.Places.{filled_more, rewritten, sizes_stay}
use Rattle.column_codec.proofs.coder.StripeCoder.columns_into.Goals as goal

pub loop-j-preserved : goal.loop-j-preserved
loop-j-preserved c =
    let keys = c.args.self.now.keys.now in
    record {
      filled = filled_more c.loop-j.out (λ (j : ℕ). column_of_symbols (shaped_object keys.master.0 keys.file)
          c.args.symbols.now j c.args.self.now.stripe) c.loop-j.j _ (omega arith) c.loop-j.invariant.filled
          (rewritten c.column_into.new.out _ c.block.inside.symbols.len
          (omega (arith, c.deref_mut.ensures.len, c.column_into.auto.out)) ∙ c.column_into.ensures);
      sizes = λ k above below. sizes_stay c.loop-j.out keys.file.profile.size c.loop-j.j _
          c.loop-j.invariant.sizes k above below;
    }
