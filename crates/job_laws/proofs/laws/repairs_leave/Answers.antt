use Rattle.job_laws.proofs.Repairs.{repairs-leave}
use Rattle.job_laws.proofs.laws.repairs_leave.Goals as goal

pub returns : goal.returns
returns c = repairs-leave
