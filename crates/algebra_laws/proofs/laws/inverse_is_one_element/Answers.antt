use Rattle.algebra_laws.proofs.Inverse.{inv_is}
use Rattle.algebra_laws.proofs.laws.inverse_is_one_element.Goals as goal

pub returns : goal.returns
returns g c = λ F laws x y e. inv_is F laws x y e
