use Rattle.vault_core.proofs.Rests.{worker_calls, worked}
use Rattle.vault_core.proofs.job.Job.work_after.Goals as goal

pub returns-in_default : goal.returns-in_default
returns-in_default c =
    worked c.args.spot c.in_default.not-Repair c.requires.wish (c.turn_after.ensures c.args.providers
    c.requires.some c.requires.stays (worker_calls c.args.self.now.wish c.requires.wish))
