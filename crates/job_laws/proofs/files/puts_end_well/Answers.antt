use Rattle.job_laws.proofs.Words.{refl, PutJob, setup_in, ran_from, MayName}
use Rattle.job_laws.proofs.Runs.{job-ends}
use Rattle.job_laws.proofs.Puts.{put-leaves}
use Rattle.job_laws.proofs.Complete.{put-end}
use Rattle.job_laws.proofs.files.puts_end_well.Goals as goal

pub returns : goal.returns
unfolding setup_in
returns c w new moment name bytes own answer heard O spelled r disk stores =
    put-end (ran_from w new heard) own name bytes answer (put-leaves w new name bytes own answer heard O
    (job-ends w new moment (PutJob name bytes) own answer heard O spelled (MayName.put name bytes refl)
    r)).by_kind.0 disk stores
