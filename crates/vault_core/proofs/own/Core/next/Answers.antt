use Rattle.vault_core.proofs.Standing.{next_machine}
use Rattle.vault_core.proofs.own.Core.next.Goals as goal

pub returns-clause-machine : goal.returns-clause-machine
returns-clause-machine c =
    λ w is. next_machine c.args.self.now w c.args.job c.coming.result is c.requires c.coming.ensures.value
