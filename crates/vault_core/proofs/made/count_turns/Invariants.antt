use Rattle.vault_core.proofs.Words.{◌≡◌, take, sum_by, Task}
use Rattle.std.proofs.Common.{◌*◌}
use Rattle.vault_core.proofs.made.count_turns.Given as goal

abbrev pub invariant-loop-task : goal.invariant-loop-task
invariant-loop-task l = l.count ≡ sum_by (λ (t : Task). t.turns * l.size) (take l.task-index l.tasks)
