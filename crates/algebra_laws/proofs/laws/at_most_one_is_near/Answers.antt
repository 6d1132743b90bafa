use Rattle.algebra_laws.proofs.Headlines.{one_near}
use Rattle.algebra_laws.proofs.laws.at_most_one_is_near.Goals as goal

pub returns : goal.returns
returns g c = λ F laws points p q seen keep wrong apart even enough hp ap hq aq. one_near F laws points p q
    seen keep wrong apart even enough hp ap hq aq
