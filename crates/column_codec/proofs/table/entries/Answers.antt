use Rattle.column_codec.proofs.Words.{◌∙◌, arith, length-set, product_at}
use Rattle.column_codec.proofs.Places.{each_more}
use Rattle.column_codec.proofs.table.entries.Goals as goal

pub loop-place-preserved : goal.loop-place-preserved
loop-place-preserved c = record {
  filled = each_more c.loop-place.entries (product_at c.args.constant) c.loop-place.place c.loop-place.place
      c.entry.result 0 c.loop-place.invariant.filled (omega arith)
      (omega (arith, c.loop-place.invariant.many)) c.entry.ensures;
  many = length-set c.loop-place.entries c.loop-place.place c.entry.result ∙ c.loop-place.invariant.many;
}

pub returns : goal.returns
returns c = record {
  full = c.loop-place.invariant.many;
  each = λ p below. c.loop-place.invariant.filled p (omega (arith, below));
}
