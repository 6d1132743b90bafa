use Rattle.hail_poly.proofs.InterpolationLaws.{back_front, values_back}
use Rattle.hail_poly.proofs.laws.interpolation_gives_polynomial_back.Goals as goal

pub returns-clause-coefficients : goal.returns-clause-coefficients
returns-clause-coefficients c = back_front

pub returns-clause-values : goal.returns-clause-values
returns-clause-values c = values_back
