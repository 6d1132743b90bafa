use Rattle.vault_core.proofs.Rests.{no_work}
use Rattle.vault_core.proofs.job.Job.calls_after.Goals as goal

pub returns-in_default : goal.returns-in_default
returns-in_default c = λ n l stays calls. no_work c.args.spot c.in_default.not-Get c.in_default.not-Repair
    (c.turn_after.ensures n l stays calls)
