use Rattle.algebra_laws.proofs.Everywhere.{same_from_values}
use Rattle.algebra_laws.proofs.laws.values_determine_polynomial.Goals as goal

pub returns : goal.returns
returns g c = λ F laws endless p q same. same_from_values F laws endless p q same
