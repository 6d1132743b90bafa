use Rattle.second_half_laws.proofs.Names.{begins_stored}
use Rattle.second_half_laws.proofs.laws.stored_names_begin.Goals as goal

pub returns : goal.returns
returns c = begins_stored
