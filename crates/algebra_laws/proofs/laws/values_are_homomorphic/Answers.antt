use Rattle.algebra_laws.proofs.Values.{value-plus, value-times}
use Rattle.algebra_laws.proofs.laws.values_are_homomorphic.Goals as goal

pub returns-clause-sum : goal.returns-clause-sum
returns-clause-sum g c = λ F laws p q x. value-plus F laws p q x

pub returns-clause-product : goal.returns-clause-product
returns-clause-product g c = λ F laws p q x. value-times F laws p q x
