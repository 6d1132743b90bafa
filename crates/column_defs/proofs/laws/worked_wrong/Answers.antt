use Rattle.column_defs.proofs.Words.{refl, is_wrong}
use Rattle.column_defs.proofs.laws.worked_wrong.Goals as goal

pub returns-clause-absent : goal.returns-clause-absent
unfolding is_wrong
returns-clause-absent c master = refl

pub returns-clause-no_stripe : goal.returns-clause-no_stripe
unfolding is_wrong
returns-clause-no_stripe c master = refl
