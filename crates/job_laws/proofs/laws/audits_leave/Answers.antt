use Rattle.job_laws.proofs.Audits.{audits-leave}
use Rattle.job_laws.proofs.laws.audits_leave.Goals as goal

pub returns : goal.returns
returns c = audits-leave
