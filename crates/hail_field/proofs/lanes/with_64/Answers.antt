use Rattle.std.proofs.Common.{refl, arith}
use Rattle.hail_field.proofs.Bounds.{with_bound}
use Rattle.hail_field.proofs.lanes.with_64.Goals as goal

pub returns : goal.returns
returns c = with_bound 6 0 refl
    (omega arith) c.args.a c.with_half_64-half.result c.ranges.a.fits c.with_half_64-half.ensures
