use Rattle.std.proofs.Common.{arith}
use Rattle.column_codec.proofs.WeightLemmas.{are_weights}
use Rattle.column_codec.proofs.weights.weights.Goals as goal

pub returns : goal.returns
returns c = are_weights c.args.l c.args.x c.loop-k.weights (omega arith) c.requires.outside
    (λ k below. c.loop-k.invariant.filled k (omega (arith, below)))
