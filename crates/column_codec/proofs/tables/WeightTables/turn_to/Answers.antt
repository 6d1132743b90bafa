use Rattle.column_codec.proofs.Words.{◌∙◌, ap, sym, arith, length-set, take_all, upto, weight_at}
use Rattle.std.proofs.Common.{◌≡◌, ◌*◌, ◌-◌, map}
use Rattle.column_codec.proofs.Places.{filled_more}
use Rattle.column_codec.proofs.tables.WeightTables.turn_to.Goals as goal

pub loop-place-preserved : goal.loop-place-preserved
loop-place-preserved c = record {
  made = filled_more c.loop-place.self-inside.items.items
      (weight_at c.args.shape.l c.args.weights.now) c.loop-place.place c.new.result
      (omega (arith, c.loop-place.invariant.many, c.count-place-end.ensures, c.loop-place-test.true))
      c.loop-place.invariant.made (c.new.ensures ∙ c.weight_of.ensures);
  many = length-set c.loop-place.self-inside.items.items c.loop-place.place c.new.result
      ∙ c.loop-place.invariant.many;
}

pub returns : goal.returns
returns c =
    let shape = c.args.shape in
    let end : c.loop-place.place ≡ (shape.n - shape.l) * (shape.l - 1) =
    omega (arith, c.count-place-end.ensures, c.loop-place-test.false, c.loop-place.auto) in
    sym (take_all c.loop-place.place c.loop-place.self-inside.items.items
    (omega (arith, end, c.loop-place.invariant.many)))
    ∙ c.loop-place.invariant.made
    ∙ ap (λ k. map (weight_at shape.l c.args.weights.now) (upto k)) end
