use Rattle.std.proofs.Common.{◌∷◌}
use Rattle.machine_defs.proofs.Untouched.{run_back}
use Rattle.second_half_laws.proofs.Wholes.{put_running, doubt_put, came_put, came_stands}
use Rattle.second_half_laws.proofs.laws.done_puts_are_whole.Goals as goal

pub returns-clause-running : goal.returns-clause-running
returns-clause-running c limit start ms number job name bytes clean run runs kind late =
    put_running limit start clean ms run number job name bytes runs kind late

pub returns-clause-in_doubt : goal.returns-clause-in_doubt
returns-clause-in_doubt c limit start ms d version id size profile clean run in_doubt is own =
    doubt_put limit start clean ms run d version id size profile in_doubt is own

pub returns-clause-came : goal.returns-clause-came
returns-clause-came c limit start m ms version id size profile clean run came own =
    came_put limit start clean m ms run version id size profile came own

pub returns-clause-stay : goal.returns-clause-stay
returns-clause-stay c limit start later ms m version id size profile clean run came own =
    (let here = run_back limit start later (m ∷ ms) run in
    let put = came_put limit start clean m ms here version id size profile came own in
    (put.0, put.1, came_stands limit start clean m ms here later id size profile run put.0 put.1))
