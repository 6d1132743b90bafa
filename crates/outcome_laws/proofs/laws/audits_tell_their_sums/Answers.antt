use Rattle.outcome_laws.proofs.Audits.{audits_end}
use Rattle.outcome_laws.proofs.OneSums.{sums_one}
use Rattle.outcome_laws.proofs.laws.audits_tell_their_sums.Goals as goal

pub returns-clause-ends : goal.returns-clause-ends
returns-clause-ends c = audits_end

pub returns-clause-one : goal.returns-clause-one
returns-clause-one c = sums_one
