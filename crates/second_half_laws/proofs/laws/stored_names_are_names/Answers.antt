use Rattle.second_half_laws.proofs.Names.{stored_named}
use Rattle.second_half_laws.proofs.laws.stored_names_are_names.Goals as goal

pub returns : goal.returns
returns c = stored_named
