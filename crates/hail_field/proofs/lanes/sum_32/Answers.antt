use Rattle.hail_field.proofs.Bounds.{sum_by_halves}
use Rattle.hail_field.proofs.lanes.sum_32.Goals as goal

pub returns : goal.returns
returns c = sum_by_halves 4 c.args.a.once c.args.b c.args.c.once c.args.d c.sum_16-high.result
    c.sum_16-low.result c.with_16-shifted.result c.ranges.b.fits c.ranges.d.fits c.sum_16-high.ensures
    c.sum_16-low.ensures c.with_16-shifted.ensures
