use Rattle.std.proofs.Common.{arith}
use Rattle.hail_syndrome.proofs.MultiplierSteps.{places_by_all}
use Rattle.hail_syndrome.proofs.multipliers.are_places.Goals as goal

pub returns : goal.returns
returns c = places_by_all c.args.points.now c.loop-k.k (omega arith) c.loop-k.invariant
