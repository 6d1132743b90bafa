use Rattle.std.proofs.Common.{arith}
use Rattle.provider_model.proofs.Lies.{added_more}
use Rattle.provider_model.proofs.liar.add_to_each.Goals as goal

pub loop-held-preserved : goal.loop-held-preserved
loop-held-preserved c = added_more c.args.symbol c.held-item.result c.add.result c.args.block.now
    c.loop-held.block c.loop-held.held-index (omega arith) c.loop-held.invariant c.add.ensures
