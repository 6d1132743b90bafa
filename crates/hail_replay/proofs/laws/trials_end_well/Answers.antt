use Rattle.hail_replay.proofs.EndsWell.{trial-ends}
use Rattle.hail_replay.proofs.laws.trials_end_well.Goals as goal

pub returns : goal.returns
returns c = trial-ends
