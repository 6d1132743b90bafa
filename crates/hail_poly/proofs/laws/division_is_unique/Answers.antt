use Rattle.hail_poly.proofs.DivisionLaws.{same_quotient, same_remainder}
use Rattle.hail_poly.proofs.laws.division_is_unique.Goals as goal

pub returns-clause-quotient : goal.returns-clause-quotient
returns-clause-quotient c = same_quotient

pub returns-clause-remainder : goal.returns-clause-remainder
returns-clause-remainder c = same_remainder
