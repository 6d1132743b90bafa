use Rattle.job_laws.proofs.Words.{None, refl, GetJob, MayName}
use Rattle.job_laws.proofs.Runs.{job-ends}
use Rattle.job_laws.proofs.Gets.{all-leaves}
use Rattle.job_laws.proofs.files.gets_leave.Goals as goal

pub returns : goal.returns
returns c w new moment name answer heard O spelled r = all-leaves w new name answer heard O
    (job-ends w new moment (GetJob name) None answer heard O spelled (MayName.none refl) r)
