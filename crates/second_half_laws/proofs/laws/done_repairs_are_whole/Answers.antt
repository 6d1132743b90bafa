use Rattle.second_half_laws.proofs.Wholes.{repair_running, doubt_repair, came_repair}
use Rattle.second_half_laws.proofs.laws.done_repairs_are_whole.Goals as goal

pub returns-clause-running : goal.returns-clause-running
returns-clause-running c limit start ms number job clean run runs kind late =
    repair_running limit start clean ms run number job runs kind late

pub returns-clause-in_doubt : goal.returns-clause-in_doubt
returns-clause-in_doubt c limit start ms d id clean run in_doubt is =
    doubt_repair limit start clean ms run d id in_doubt is

pub returns-clause-came : goal.returns-clause-came
returns-clause-came c limit start m ms id clean run came = came_repair limit start clean m ms run id came
