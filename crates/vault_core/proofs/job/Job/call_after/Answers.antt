use Rattle.std.proofs.Common.{◌+◌, arith}
use Rattle.vault_core.proofs.Rests.{called}
use Rattle.vault_core.proofs.job.Job.call_after.Goals as goal

pub returns : goal.returns
returns c = called c.args.providers c.args.self.now c.args.spot (c.args.provider + 1) c.calls_after.result
    (omega arith) (c.calls_after.ensures c.args.providers (omega arith) c.requires.stays c.requires.wish)
