use Rattle.vault_core.proofs.Rests.{turn_here, turns_over}
use Rattle.vault_core.proofs.job.Job.turn_after.Goals as goal

pub returns-then-spot : goal.returns-then-spot
returns-then-spot c = λ n l stays calls. turn_here n c.args.self.now c.args.spot l calls c.if-spot.true

pub returns : goal.returns
returns c = λ n l stays calls. turns_over c.args.spot c.if-spot.false (c.task_at.ensures n l stays)
