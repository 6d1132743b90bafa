use Rattle.vault_core.proofs.Idle.{drawn_core}
use Rattle.vault_core.proofs.own.Core.draw.Goals as goal

pub invariant_of-self : goal.invariant_of-self
invariant_of-self c = drawn_core c.self.inside c.self.invariant
