use Rattle.damage_run.proofs.CalmRun.{later, older}
use Rattle.damage_run.proofs.SecondLoss.{recent, moves}
use Rattle.damage_run.proofs.runs.another_provider_is_damaged.Goals as goal

pub returns : goal.returns
returns c = (later, recent, older, moves)
