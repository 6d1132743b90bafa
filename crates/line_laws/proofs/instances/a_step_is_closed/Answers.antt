use Rattle.std.proofs.Common.{[], refl, arith}
use Rattle.line_laws.proofs.Samples.{closed-step, not-more}
use Rattle.line_laws.proofs.instances.a_step_is_closed.Goals as goal

pub returns : goal.returns
returns c = (
  closed-step,
  refl,
  tt,
  refl,
  (omega arith, refl, tt),
  tt,
  (closed-step, [], [], [], refl, record { step = refl; over = not-more; before = tt }, (refl, refl), refl),
  refl,
  (tt, tt),
)
