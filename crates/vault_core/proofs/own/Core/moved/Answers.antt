use Rattle.vault_core.proofs.Words.{rules}
use Rattle.vault_core.proofs.Idle.{core-moved}
use Rattle.vault_core.proofs.own.Core.moved.Goals as goal

pub returns-clause-moved : goal.returns-clause-moved
returns-clause-moved c = search rules

pub returns-clause-stands : goal.returns-clause-stands
returns-clause-stands c = λ w is second free ends sound. (rw (← (returns-clause-moved c)) at
    (core-moved c.args.self.now w c.args.end is second free ends sound))
