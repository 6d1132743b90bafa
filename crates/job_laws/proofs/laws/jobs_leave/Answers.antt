use Rattle.job_laws.proofs.Telling.{jobs-leave}
use Rattle.job_laws.proofs.laws.jobs_leave.Goals as goal

pub returns : goal.returns
returns c w new moment kind own answer heard O spelled named r =
    jobs-leave kind own w new moment answer heard spelled named O r
