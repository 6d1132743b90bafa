use Rattle.job_laws.proofs.Words.{refl, PutJob, MayName}
use Rattle.job_laws.proofs.Runs.{job-ends}
use Rattle.job_laws.proofs.Puts.{put-leaves}
use Rattle.job_laws.proofs.files.puts_leave.Goals as goal

pub returns : goal.returns
returns c w new moment name bytes own answer heard O spelled r = put-leaves w new name bytes own answer heard
    O (job-ends w new moment (PutJob name bytes) own answer heard O spelled (MayName.put name bytes refl) r)
