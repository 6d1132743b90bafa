use Rattle.hail_field.proofs.Bounds.{half_times}
use Rattle.hail_field.proofs.lanes.with_half_16.Goals as goal

pub returns : goal.returns
returns c = half_times 3 c.args.a c.with_half_8-half.result c.with_8.result c.with_half_8-half.ensures
    c.with_8.ensures
