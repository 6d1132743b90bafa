use Rattle.machine_defs.specs.Calm.{since}
use Rattle.second_half_laws.proofs.InRuns.{calm_marked}
use Rattle.outcome_laws.proofs.Repairs.{repairs_end}
use Rattle.outcome_laws.proofs.Unfailed.{unfailed}
use Rattle.outcome_laws.proofs.laws.calm_repairs_end_well.Goals as goal

pub returns-clause-marked : goal.returns-clause-marked
returns-clause-marked c = repairs_end

pub returns-clause-unfailed : goal.returns-clause-unfailed
returns-clause-unfailed c = unfailed

pub returns-clause-calm : goal.returns-clause-calm
returns-clause-calm c limit start between older m b number how h =
    repairs_end limit (since start) start between older m b number how (calm_marked limit start _ h)
