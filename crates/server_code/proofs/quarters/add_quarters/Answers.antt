use Rattle.server_code.proofs.Words.{rules, ◌≡◌, ◌∙◌, ◌+◌, ◌*◌, ◌-◌, ap, ap₂, length, replicate, take, drop, arith, refl, length-append, length-take-le, plus, places, inverse, coefficient_sum}
use Rattle.std.proofs.lemmas.List.{length-drop}
use Rattle.server_code.proofs.TransformSteps.{one_quarter_more}
use Rattle.server_code.proofs.quarters.add_quarters.Goals as goal

pub loop-q-init : goal.loop-q-init
unfolding coefficient_sum
loop-q-init c =
    let filled : c.fill.new.self ≡ replicate (length c.args.sum.now) 0 = search rules in
    let quarters = c.args.quarters in
    record {
      room = refl;
      long = refl;
      sum = filled ∙ ap (λ n. replicate n 0) (c.requires.sum ∙ quarters.width_is);
    }

pub loop-q-preserved : goal.loop-q-preserved
loop-q-preserved c =
    let quarters = c.args.quarters in
    let width = quarters.width in
    let start = c.loop-q.q * width in
    let wide : start + width - start ≡ places quarters.level = omega (arith, quarters.width_is) in
    record {
      room = omega (
        arith,
        c.requires.room,
        c.loop-q.invariant.room,
        c.add_quarter.auto.room,
        length-take-le width c.loop-q.room (omega (arith, c.requires.room, c.loop-q.invariant.room)),
        length-drop width c.loop-q.room,
        length-append c.add_quarter.new.room (drop width c.loop-q.room),
      );
      long = c.add_quarter.auto.sum ∙ c.loop-q.invariant.long;
      sum = one_quarter_more quarters.level quarters.first c.loop-q.q c.args.block.now c.loop-q.sum
          c.add_quarter.new.sum c.loop-q.invariant.sum (c.add_quarter.ensures
          ∙ ap₂ (λ n w. plus c.loop-q.sum (inverse quarters.level (quarters.first + c.loop-q.q)
          (take n (drop (c.loop-q.q * w) c.args.block.now)))) wide quarters.width_is);
    }
