use Rattle.vault_core.proofs.Idle.{bar_core, core-bar}
use Rattle.vault_core.proofs.own.Core.bar.Goals as goal

pub invariant_of-self : goal.invariant_of-self
invariant_of-self c = bar_core c.self.inside c.self.invariant

pub returns-clause-stands : goal.returns-clause-stands
returns-clause-stands c = λ w is free sound. (rw (← c.self.view_is) at
    (core-bar c.args.self.now w is free sound))
