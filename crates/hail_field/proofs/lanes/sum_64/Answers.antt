use Rattle.hail_field.proofs.Bounds.{sum_by_halves}
use Rattle.hail_field.proofs.lanes.sum_64.Goals as goal

pub returns : goal.returns
returns c = sum_by_halves 5 c.args.a.once c.args.b c.args.c.once c.args.d c.sum_32-high.result
    c.sum_32-low.result c.with_32-shifted.result c.ranges.b.fits c.ranges.d.fits c.sum_32-high.ensures
    c.sum_32-low.ensures c.with_32-shifted.ensures
