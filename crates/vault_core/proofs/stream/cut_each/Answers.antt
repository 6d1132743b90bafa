use Rattle.vault_core.proofs.Words.{arith, of_turns}
use Rattle.vault_core.proofs.Rests.{each_more}
use Rattle.vault_core.proofs.stream.cut_each.Goals as goal

pub loop-task-preserved : goal.loop-task-preserved
loop-task-preserved c = each_more (of_turns c.args.stripes) _ c.args.tasks.now
    c.loop-task.task-index (omega arith) c.loop-task.invariant
