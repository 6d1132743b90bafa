use Rattle.effect_laws.proofs.Origin.{was_put, none_put_none}
use Rattle.effect_laws.proofs.laws.files_were_put.Goals as goal

pub returns : goal.returns
returns c = record { put = was_put; none = none_put_none }
