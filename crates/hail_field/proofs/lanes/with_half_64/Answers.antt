use Rattle.hail_field.proofs.Bounds.{half_times}
use Rattle.hail_field.proofs.lanes.with_half_64.Goals as goal

pub returns : goal.returns
returns c = half_times 5 c.args.a c.with_half_32-half.result c.with_32.result c.with_half_32-half.ensures
    c.with_32.ensures
