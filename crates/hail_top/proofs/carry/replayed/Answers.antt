use Rattle.std.proofs.Common.{refl}
use Rattle.hail_top.proofs.carry.replayed.Goals as goal

pub returns : goal.returns
returns c = refl
