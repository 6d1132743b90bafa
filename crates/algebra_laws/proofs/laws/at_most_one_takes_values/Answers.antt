use Rattle.algebra_laws.proofs.Headlines.{one_takes}
use Rattle.algebra_laws.proofs.laws.at_most_one_takes_values.Goals as goal

pub returns : goal.returns
returns g c = λ F laws points values p q apart even hp tp hq tq. one_takes F laws points values p q apart hp
    tp hq tq
