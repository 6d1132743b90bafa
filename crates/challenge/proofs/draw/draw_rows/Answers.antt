use Rattle.std.proofs.Common.{◌∙◌, ap, arith, ◌%◌}
use Rattle.std.proofs.lemmas.List.{length-set}
use Rattle.challenge.specs.Rows.{next_number}
use Rattle.challenge.proofs.Rows.{draw_more, next_place}
use Rattle.challenge.proofs.draw.draw_rows.Goals as goal

pub loop-k-preserved : goal.loop-k-preserved
loop-k-preserved c = record {
  at = next_place c.args.rng.now c.loop-k.rng _ c.loop-k.k c.loop-k.invariant.at c.next_row.ensures.place;
  drawn = draw_more c.args.rng.now c.args.rows c.loop-k.k c.next_row.result c.loop-k.drawn
      (omega (arith, c.loop-k.invariant.many, c.requires.few))
      (c.next_row.ensures.value ∙ ap (λ g. next_number g % c.args.rows) c.loop-k.invariant.at)
      c.loop-k.invariant.drawn;
  many = length-set c.loop-k.drawn _ _ ∙ c.loop-k.invariant.many;
}
