use Rattle.std.proofs.Common.{arith}
use Rattle.hail_poly.proofs.CountSteps.{agree_more, agree_end}
use Rattle.hail_poly.proofs.count.agreements.Goals as goal
use Rattle.hail_poly.proofs.count.agreements.Goals.{then-meets, else-meets}

pub loop-k-preserved : goal.loop-k-preserved
loop-k-preserved c =
    let i = c.loop-k.invariant in
    let more = agree_more c.args.coefficients.now c.args.points.now c.args.values.now c.loop-k.k
    c.index-points-k.result c.eval-value.result c.index-values-k.result
    c.loop-k.count c.meets.result c.loop-k-test.true c.requires c.index-points-k.is c.index-values-k.is
    c.eval-value.ensures c.meets.ensures i.sum in
    elim c.if-meets.branch [
      | then-meets w ↦ let m = rw w.if-meets.true at more in
          record { bound = omega (arith, w.count-is, i.bound); sum = rw w.count-is m }
      | else-meets w ↦ let m = rw w.if-meets.false at more in
          record { bound = omega (arith, w.count-is, i.bound); sum = omega (arith, w.count-is, m) }
    ]

pub returns-clause-count : goal.returns-clause-count
returns-clause-count c = agree_end c.args.coefficients.now c.args.points.now c.args.values.now c.loop-k.k
    c.loop-k.count c.loop-k-test.false c.loop-k.invariant.sum
