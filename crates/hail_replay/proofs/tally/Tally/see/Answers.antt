use Rattle.std.proofs.Common.{arith}
use Rattle.std.proofs.lemmas.Grind.{common_steps}
use Rattle.hail_replay.specs.Came.{came_outcome}
use Rattle.hail_replay.proofs.Steps.{sees_one}
use Rattle.hail_replay.proofs.tally.Tally.see.Goals as goal

pub returns-clause-run : goal.returns-clause-run
returns-clause-run c = sees_one c.args.expected.now c.args.tolerance (came_outcome c.args.came.now) c.args.self.now _
    (grind (arith, common_steps))
