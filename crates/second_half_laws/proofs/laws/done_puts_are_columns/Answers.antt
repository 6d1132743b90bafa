use Rattle.second_half_laws.proofs.EveryRun.{always}
use Rattle.second_half_laws.proofs.InRuns.{came_columns}
use Rattle.second_half_laws.proofs.laws.done_puts_are_columns.Goals as goal

pub returns-clause-in_doubt : goal.returns-clause-in_doubt
returns-clause-in_doubt c limit start ms d id size profile j stripe block clean run at e l b none told =
    (always limit start clean ms run).put_columns d id size profile j stripe block at e l b none told

pub returns-clause-came : goal.returns-clause-came
returns-clause-came c limit start m ms r id size profile clean run e ends =
    came_columns limit start m ms r id size profile clean run e ends
