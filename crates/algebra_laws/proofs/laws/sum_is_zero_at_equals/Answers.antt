use Rattle.algebra_laws.proofs.Ring.{sum_zero}
use Rattle.algebra_laws.proofs.laws.sum_is_zero_at_equals.Goals as goal

pub returns : goal.returns
returns g c = λ F laws x y e. sum_zero laws.ring x y e
