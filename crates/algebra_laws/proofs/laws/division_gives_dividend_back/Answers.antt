use Rattle.algebra_laws.proofs.Headlines.{divided}
use Rattle.algebra_laws.proofs.Division.{length-remainder}
use Rattle.algebra_laws.proofs.laws.division_gives_dividend_back.Goals as goal

pub returns-clause-dividend : goal.returns-clause-dividend
returns-clause-dividend g c = λ F laws p d m size lead x. divided F laws p d m size lead x

pub returns-clause-degree : goal.returns-clause-degree
returns-clause-degree g c = λ F laws p d m w. length-remainder F laws d m w p
