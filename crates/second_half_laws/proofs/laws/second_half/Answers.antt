use Rattle.second_half_laws.proofs.SecondHalf as half
use Rattle.second_half_laws.proofs.laws.second_half.Goals as goal

pub returns : goal.returns
returns c = half.second_half
