use Rattle.vault_core.proofs.Words.{IsKindOf}
use Rattle.vault_core.proofs.Admitted.{short-aim, begins_among, begun-told}
use Rattle.vault_core.proofs.own.Core.begin.Goals as goal

pub returns-clause-begins : goal.returns-clause-begins
returns-clause-begins c = begins_among (IsKindOf c.args.wish) (λ kind of. (
  of,
  short-aim c.args.wish kind of c.requires.size,
)) c.start_job.ensures.begins

pub returns-clause-streams : goal.returns-clause-streams
returns-clause-streams c = (begun-told c.start_job.result c.args.self.now c.start_job.new.self
    c.start_job.ensures.jobs c.start_job.ensures.begins.unchanged).0

pub returns-clause-told : goal.returns-clause-told
returns-clause-told c = (begun-told c.start_job.result c.args.self.now c.start_job.new.self
    c.start_job.ensures.jobs c.start_job.ensures.begins.unchanged).1
