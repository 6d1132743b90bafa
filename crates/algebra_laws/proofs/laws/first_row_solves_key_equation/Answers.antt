use Rattle.algebra_laws.proofs.Headlines.{key_equation}
use Rattle.algebra_laws.proofs.laws.first_row_solves_key_equation.Goals as goal

pub returns : goal.returns
returns g c = λ F laws endless points values r f below apart even le row. key_equation F laws endless points
    values r f below apart even le row
