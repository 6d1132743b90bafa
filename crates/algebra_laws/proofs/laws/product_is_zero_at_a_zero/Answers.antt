use Rattle.algebra_laws.proofs.Inverse.{factor_zero}
use Rattle.algebra_laws.proofs.laws.product_is_zero_at_a_zero.Goals as goal

pub returns : goal.returns
returns g c = λ F laws x y e h. factor_zero F laws x y e h
