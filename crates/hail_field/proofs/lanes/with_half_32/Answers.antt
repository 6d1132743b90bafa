use Rattle.hail_field.proofs.Bounds.{half_times}
use Rattle.hail_field.proofs.lanes.with_half_32.Goals as goal

pub returns : goal.returns
returns c = half_times 4 c.args.a c.with_half_16-half.result c.with_16.result c.with_half_16-half.ensures
    c.with_16.ensures
