use Rattle.vault_core.proofs.Rests.{rewriter_calls, rewritten}
use Rattle.vault_core.proofs.job.Job.rewrites_after.Goals as goal

pub returns-in-None : goal.returns-in-None
returns-in-None c = rewritten c.args.spot c.args.from (c.in-None.ensures.none c.args.spot.object
    c.args.spot.turn) (c.turn_after.ensures c.args.providers c.requires.some c.requires.stays
    (rewriter_calls c.args.self.now.wish c.requires.wish))
