use Rattle.vault_core.proofs.Words.{IsPutUnder}
use Rattle.vault_core.proofs.Admitted.{begins_among, put_under, stream-open, stream-others}
use Rattle.vault_core.proofs.own.Core.begin_stream.Goals as goal

pub returns-clause-begins : goal.returns-clause-begins
returns-clause-begins c = begins_among (IsPutUnder c.args.name) (put_under c.args.name c.args.profile)
    c.start_job.ensures.begins

pub returns-clause-open : goal.returns-clause-open
returns-clause-open c = stream-open c.start_job.result c.args.self.now c.start_job.new.self
    c.start_job.ensures.jobs c.start_job.ensures.begins.number

pub returns-clause-others : goal.returns-clause-others
returns-clause-others c = stream-others c.start_job.result c.args.self.now c.start_job.new.self
    c.start_job.ensures.jobs c.start_job.ensures.begins.unchanged
