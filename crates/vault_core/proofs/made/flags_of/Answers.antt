use Rattle.std.proofs.Common.{arith}
use Rattle.vault_core.proofs.Pins.{flags_all}
use Rattle.vault_core.proofs.made.flags_of.Goals as goal

pub returns-clause-flags : goal.returns-clause-flags
returns-clause-flags c = flags_all c.args.counts.now c.args.tolerance _ c.requires
    c.loop-j.invariant.long (λ k l. c.loop-j.invariant.flags k (omega (arith, l)))
