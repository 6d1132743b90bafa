use Rattle.schedule_text.proofs.Sizes.{few}
use Rattle.schedule_text.proofs.laws.schedule_is_short.Goals as goal

pub returns : goal.returns
returns c = few
