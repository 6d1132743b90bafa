use Rattle.algebra_laws.proofs.Decode.{decode_exact}
use Rattle.algebra_laws.proofs.Everywhere.{same_from_values}
use Rattle.algebra_laws.proofs.laws.quotient_of_first_row_decodes.Goals as goal

pub returns-clause-divides : goal.returns-clause-divides
returns-clause-divides g c =
    λ F laws endless points values r f p keep fix below apart even wide narrow some row is. (decode_exact F
    laws endless points values keep fix below laws.one_not_zero even apart row wide narrow some p is).0

pub returns-clause-only : goal.returns-clause-only
returns-clause-only g c =
    λ F laws endless points values r f p q keep fix below apart even wide narrow some row is product.
    same_from_values F laws endless q p
    ((decode_exact F laws endless points values keep fix below laws.one_not_zero even apart row wide narrow
    some p is).1 q product)
