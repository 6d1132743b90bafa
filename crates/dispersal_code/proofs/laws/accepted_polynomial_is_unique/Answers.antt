use Rattle.dispersal_code.proofs.Unique.{same_trim, same_value}
use Rattle.dispersal_code.proofs.laws.accepted_polynomial_is_unique.Goals as goal

pub returns-clause-coefficients : goal.returns-clause-coefficients
returns-clause-coefficients c = same_trim

pub returns-clause-values : goal.returns-clause-values
returns-clause-values c = same_value
