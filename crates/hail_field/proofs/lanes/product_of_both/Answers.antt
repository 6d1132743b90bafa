use Rattle.hail_field.proofs.Bounds.{product_of_factors}
use Rattle.hail_field.proofs.lanes.product_of_both.Goals as goal

pub returns : goal.returns
returns c =
    product_of_factors 6 c.args.a c.args.b c.with_64-shifted.result c.new.result.once c.new-2.result.once
    c.sum_64.result c.ranges.b.fits c.with_64-shifted.ensures c.new.ensures c.new-2.ensures c.sum_64.ensures
