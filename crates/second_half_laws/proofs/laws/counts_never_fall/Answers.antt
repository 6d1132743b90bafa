use Rattle.second_half_laws.proofs.Onward.{run_onward}
use Rattle.second_half_laws.proofs.laws.counts_never_fall.Goals as goal

pub returns-clause-disk : goal.returns-clause-disk
returns-clause-disk c limit start m ms run = (run_onward limit start m ms run).disk

pub returns-clause-stores : goal.returns-clause-stores
returns-clause-stores c limit start m ms j run = ((run_onward limit start m ms run).provider j).stores

pub returns-clause-others : goal.returns-clause-others
returns-clause-others c limit start m ms j run = ((run_onward limit start m ms run).provider j).others
