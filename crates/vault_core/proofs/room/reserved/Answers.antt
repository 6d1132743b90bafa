use Rattle.std.proofs.Common.{◌∙◌, arith}
use Rattle.vault_core.proofs.Gating.{room_all}
use Rattle.vault_core.proofs.room.reserved.Goals as goal

pub returns-in_default-clause-value : goal.returns-in_default-clause-value
returns-in_default-clause-value c = c.sizes.ensures.value
    ∙ room_all c.args.version c.args.providers c.args.job.now.wish c.args.job.now.appends (omega arith)
