use Rattle.std.proofs.Common.{arith}
use Rattle.server_code.proofs.Halves.{plus_by_each}
use Rattle.server_code.proofs.quarters.add_all.Goals as goal

pub returns : goal.returns
returns c = plus_by_each c.args.sum.now c.args.more.now c.loop-k.sum c.requires.even c.loop-k.invariant.long
    (λ k h. c.loop-k.invariant.done k (omega (arith, h, c.loop-k.invariant.long)))
