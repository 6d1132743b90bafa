use Rattle.hail_field.proofs.Bounds.{times_halves_first}
use Rattle.hail_field.proofs.lanes.Factor.scaled.Goals as goal

pub returns : goal.returns
returns c = times_halves_first 3 c.args.self.once c.args.self.shifted c.args.c c.scaled-high.result
    c.scaled-low.result c.ranges.c.fits c.args.self.is_shifted c.scaled-high.ensures c.scaled-low.ensures
