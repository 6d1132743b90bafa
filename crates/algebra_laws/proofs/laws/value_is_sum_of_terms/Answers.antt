use Rattle.algebra_laws.proofs.Sums.{value_as_sum}
use Rattle.algebra_laws.proofs.laws.value_is_sum_of_terms.Goals as goal

pub returns : goal.returns
returns g c = λ F laws p x. value_as_sum F laws p x
