use Rattle.std.proofs.Common.{◌+◌, ◌-◌}
use Rattle.vault_core.proofs.Gates.{steady_at, rest_moved}
use Rattle.vault_core.proofs.job.Job.advance.Goals as goal

pub returns-clause-kept : goal.returns-clause-kept
returns-clause-kept c =
    steady_at (c.args.self.now.place + 1) (c.args.self.now.left - 1) c.requires.kept c.after-self.ensures

pub returns-clause-rest : goal.returns-clause-rest
returns-clause-rest c = rest_moved (c.args.self.now.place + 1) (c.args.self.now.left - 1) c.after-self.ensures
