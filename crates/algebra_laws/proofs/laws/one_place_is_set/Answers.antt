use Rattle.algebra_laws.proofs.Lists.{get-set_same, get-set_other}
use Rattle.algebra_laws.proofs.laws.one_place_is_set.Goals as goal

pub returns-clause-here : goal.returns-clause-here
returns-clause-here g c = λ xs place x l. get-set_same xs place x l

pub returns-clause-others : goal.returns-clause-others
returns-clause-others g c = λ xs place other x differ. get-set_other xs place other x differ
