use Rattle.hail_scrub.proofs.Words.{length, ap, arith, eq-eqb, ne_eqb}
use Rattle.hail_scrub.proofs.Rests.{stores_take, stores_skip}
use Rattle.hail_scrub.proofs.compare.count_off.Goals as goal
use Rattle.hail_scrub.proofs.compare.count_off.Goals.{then-off-j-ne0, else-off-j-ne0}

pub loop-j-preserved : goal.loop-j-preserved
loop-j-preserved c =
    let n = c.args.providers in
    let i = c.loop-j.invariant in
    elim c.if-off-j-ne0.branch [
      | then-off-j-ne0 w ↦ record {
        count = λ o t. (
            let e = ap length (stores_take n c.loop-j.j c.args.off.now o t (omega arith)
            (ne_eqb _ 0 w.if-off-j-ne0.true)) in
            let v = i.count o t in omega (arith, e, v, w.count-is));
        few = omega (arith, w.count-is, i.few);
      }
      | else-off-j-ne0 w ↦ record {
        count = λ o t. (
            let e = ap length (stores_skip n c.loop-j.j c.args.off.now o t (omega arith)
            (eq-eqb _ 0 w.if-off-j-ne0.false)) in
            let v = i.count o t in omega (arith, e, v, w.count-is));
        few = omega (arith, w.count-is, i.few);
      }
    ]
