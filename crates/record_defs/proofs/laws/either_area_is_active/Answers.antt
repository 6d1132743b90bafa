use Rattle.record_defs.proofs.AreaLaws.{either_active}
use Rattle.record_defs.proofs.laws.either_area_is_active.Goals as goal

pub returns : goal.returns
returns c = either_active
