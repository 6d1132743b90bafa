use Rattle.second_half_laws.proofs.Inits.{init_sets_up}
use Rattle.second_half_laws.proofs.laws.inits_set_up.Goals as goal

pub returns : goal.returns
returns c = init_sets_up
