use Rattle.second_half_laws.proofs.Onward.{all_tell}
use Rattle.second_half_laws.proofs.laws.telling_goes_on.Goals as goal

pub returns : goal.returns
returns c = all_tell
