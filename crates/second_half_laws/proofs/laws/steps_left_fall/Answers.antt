use Rattle.std.proofs.Common.{length}
use Rattle.second_half_laws.proofs.Words.{now, changes, all}
use Rattle.second_half_laws.proofs.Walk.{walked}
use Rattle.second_half_laws.proofs.Fall.{facts, fell, stayed, one_left}
use Rattle.second_half_laws.proofs.laws.steps_left_fall.Goals as goal

pub returns-clause-step : goal.returns-clause-step
returns-clause-step c limit start m ms before job clean run event outcome runs h =
    (let A = all limit start clean ms run.2 in
    fell limit start m ms A (facts limit start clean ms run.2)
    (changes limit (length ms) (now start ms) m.event m.outcome m.state A.numbers.idle run.1)
    (walked (length ms) (now start ms) limit m.event m.outcome m.state A.numbers.idle.lone run.1)
    before.number before job runs h event outcome)

pub returns-clause-other : goal.returns-clause-other
returns-clause-other c limit start m ms before job clean run runs h other =
    (let A = all limit start clean ms run.2 in
    stayed limit start m ms A (facts limit start clean ms run.2)
    (changes limit (length ms) (now start ms) m.event m.outcome m.state A.numbers.idle run.1)
    (walked (length ms) (now start ms) limit m.event m.outcome m.state A.numbers.idle.lone run.1)
    before.number before job runs h other)

pub returns-clause-some : goal.returns-clause-some
returns-clause-some c limit start ms number job clean run runs =
    one_left start ms (facts limit start clean ms run) number job runs
