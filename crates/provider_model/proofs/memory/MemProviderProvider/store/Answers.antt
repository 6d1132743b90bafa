use Rattle.std.proofs.Common.{arith}
use Rattle.provider_model.proofs.memory.MemProviderProvider.store.Goals as goal

pub returns-clause-ok : goal.returns-clause-ok
returns-clause-ok c = c.in_ok-set.ensures.ok

pub returns-then-next-clause-cause : goal.returns-then-next-clause-cause
returns-then-next-clause-cause c =
    record {
      never_falls = omega (arith, c.saturating_add-self.ensures);
      rose = λ failed few. omega (arith, c.saturating_add-self.ensures, few);
    }
