use Rattle.std.proofs.Common.{◌≡◌, ◌++◌, map, take, drop}
use Rattle.vault_core.specs.Going.{aimed}
use Rattle.vault_core.proofs.going.aim.Given as goal

abbrev pub invariant-loop-task : goal.invariant-loop-task
invariant-loop-task l =
    l.tasks ≡ map (aimed l.object) (take l.task-index l.initial.tasks) ++ drop l.task-index l.initial.tasks
