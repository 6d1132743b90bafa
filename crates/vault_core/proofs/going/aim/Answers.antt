use Rattle.vault_core.proofs.Words.{arith, aimed}
use Rattle.vault_core.proofs.Rests.{each_more}
use Rattle.vault_core.proofs.going.aim.Goals as goal

pub loop-task-preserved : goal.loop-task-preserved
loop-task-preserved c = each_more (aimed c.args.object) _ c.args.tasks.now
    c.loop-task.task-index (omega arith) c.loop-task.invariant
