use Rattle.std.proofs.Common.{arith, length}
use Rattle.server_code.proofs.RowSteps.{sums_by_all}
use Rattle.server_code.proofs.rows.fill_sums.Goals as goal

pub returns : goal.returns
returns c = sums_by_all c.args.rows.now c.args.kept.now c.loop-row.out (length c.args.out.now) (omega arith)
    (λ k h. c.loop-row.invariant k (omega arith))
