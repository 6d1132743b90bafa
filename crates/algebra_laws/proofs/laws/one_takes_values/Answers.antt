use Rattle.algebra_laws.proofs.Interpolate.{length-interpolate, interpolate_takes}
use Rattle.algebra_laws.proofs.laws.one_takes_values.Goals as goal

pub returns-clause-degree : goal.returns-clause-degree
returns-clause-degree g c = λ F laws points values even. length-interpolate F laws points values even

pub returns-clause-takes : goal.returns-clause-takes
returns-clause-takes g c =
    λ F laws points values even apart. interpolate_takes F laws points values laws.one_not_zero even apart
