-- The job of a command as a job of the machine.
--
--   kind_of job  == what it is for
use Rattle.machine_defs.specs.Jobs.{Kind, GetJob, DropJob, AuditJob, RepairJob, UpgradeJob}
use Rattle.command_jobs.specs.declared.job.Job.{Job}
use Rattle.command_jobs.specs.declared.job.Job.TheVariants as job

-- what the job is for
abbrev pub kind_of : Job → Kind
kind_of (job.Get name) = GetJob name.now
kind_of (job.Drop name) = DropJob name.now
kind_of job.Audit = AuditJob
kind_of job.Repair = RepairJob
kind_of job.Upgrade = UpgradeJob
