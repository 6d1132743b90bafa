use Rattle.job_laws.proofs.Words.{None, refl, UpgradeJob, ran_from, MayName}
use Rattle.job_laws.proofs.Runs.{job-ends}
use Rattle.job_laws.proofs.Upgrades.{upgrade-leaves}
use Rattle.job_laws.proofs.Complete.{upgrade-end}
use Rattle.job_laws.proofs.files.upgrades_end_well.Goals as goal

pub returns : goal.returns
returns c w new moment answer heard O r disk = upgrade-end (ran_from w new heard) answer
    (upgrade-leaves w new answer heard O
    (job-ends w new moment UpgradeJob None answer heard O tt (MayName.none refl) r)).by_kind.0 disk
