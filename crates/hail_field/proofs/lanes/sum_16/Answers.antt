use Rattle.hail_field.proofs.Words.{ap₂, nim_add}
use Rattle.hail_field.proofs.lanes.sum_16.Goals as goal

pub returns : goal.returns
unfolding nim_add
returns c = ap₂ nim_add c.scaled-left.ensures c.scaled-right.ensures
