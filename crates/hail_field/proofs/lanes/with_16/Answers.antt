use Rattle.std.proofs.Common.{refl, arith}
use Rattle.hail_field.proofs.Bounds.{with_bound}
use Rattle.hail_field.proofs.lanes.with_16.Goals as goal

pub returns : goal.returns
returns c = with_bound 4 2 refl
    (omega arith) c.args.a c.with_half_16-half.result c.ranges.a.fits c.with_half_16-half.ensures
