use Rattle.server_code.proofs.Words.{arith, get_or_read}
use Rattle.server_code.proofs.CountSteps.{differences_step, difference_bound, all_counted}
use Rattle.server_code.proofs.correct.count_differences.Goals as goal

pub loop-k-preserved : goal.loop-k-preserved
loop-k-preserved c =
    let read_a = get_or_read c.args.a.now c.loop-k.k c.index-a-k.result (omega arith) c.index-a-k.is 0 in
    let read_b = get_or_read c.args.b.now c.loop-k.k c.index-b-k.result (omega arith) c.index-b-k.is 0 in
    record {
      bound = omega (
        arith,
        c.loop-k.invariant.bound,
        difference_bound c.index-a-k.result c.index-b-k.result c.difference-count.result
            c.difference-count.ensures,
      );
      count = omega (
        arith,
        c.loop-k.invariant.count,
        differences_step c.args.a.now c.args.b.now c.loop-k.k c.index-a-k.result c.index-b-k.result
            c.difference-count.result (omega arith) (omega arith) read_a read_b c.difference-count.ensures,
      );
    }

pub returns-clause-value : goal.returns-clause-value
returns-clause-value c = all_counted c.args.a.now c.args.b.now c.loop-k.k c.loop-k.count _ (omega arith)
    (omega arith) c.loop-k.invariant.count
