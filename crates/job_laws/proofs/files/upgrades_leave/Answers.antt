use Rattle.job_laws.proofs.Words.{None, refl, UpgradeJob, MayName}
use Rattle.job_laws.proofs.Runs.{job-ends}
use Rattle.job_laws.proofs.Upgrades.{upgrade-leaves}
use Rattle.job_laws.proofs.files.upgrades_leave.Goals as goal

pub returns : goal.returns
returns c w new moment answer heard O r = upgrade-leaves w new answer heard O
    (job-ends w new moment UpgradeJob None answer heard O tt (MayName.none refl) r)
