use Rattle.job_laws.proofs.Telling.{left-alone, jobs-leave}
use Rattle.job_laws.proofs.alone.told_jobs_leave.Goals as goal

pub returns : goal.returns
returns c records kind own answer old new heard R spelled named same A =
    left-alone records kind own answer old new heard spelled named
    (λ w last moment O r. jobs-leave kind own w last moment answer heard spelled named O r) R same A
