use Rattle.second_half_laws.proofs.Doubts.{setups_stay}
use Rattle.second_half_laws.proofs.laws.setups_stay.Goals as goal

pub returns : goal.returns
returns c = setups_stay
