use Rattle.job_laws.proofs.Words.{None, refl, DropJob, ran_from, MayName}
use Rattle.job_laws.proofs.Runs.{job-ends}
use Rattle.job_laws.proofs.Drops.{drop-leaves}
use Rattle.job_laws.proofs.Refused.{drop-has}
use Rattle.job_laws.proofs.Complete.{drop-end}
use Rattle.job_laws.proofs.files.drops_end_well.Goals as goal

pub returns : goal.returns
returns c w new moment name answer heard O spelled r disk = (let f = drop-has 8 w name r.begins.1 in
    drop-end (ran_from w new heard) name answer
    (drop-leaves w new name answer heard O
    (job-ends w new moment (DropJob name) None answer heard O spelled (MayName.none refl) r) f.0
    f.1).by_kind.0 disk)
