use Rattle.job_laws.proofs.Words.{None, refl, DropJob, MayName}
use Rattle.job_laws.proofs.Runs.{job-ends}
use Rattle.job_laws.proofs.Drops.{drop-leaves}
use Rattle.job_laws.proofs.Refused.{drop-has}
use Rattle.job_laws.proofs.files.drops_leave.Goals as goal

pub returns : goal.returns
returns c w new moment name answer heard O spelled r = (let f = drop-has 8 w name r.begins.1 in
    drop-leaves w new name answer heard O
    (job-ends w new moment (DropJob name) None answer heard O spelled (MayName.none refl) r)
    f.0 f.1)
