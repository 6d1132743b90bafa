use Rattle.std.proofs.Common.{◌≡◌, ◌++◌, map, take, drop}
use Rattle.vault_core.specs.Cut.{of_turns}
use Rattle.vault_core.proofs.stream.cut_each.Given as goal

abbrev pub invariant-loop-task : goal.invariant-loop-task
invariant-loop-task l = l.tasks ≡ map (of_turns l.stripes) (take l.task-index l.initial.tasks) ++ drop
    l.task-index l.initial.tasks
