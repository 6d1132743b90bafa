use Rattle.command_runs.proofs.JobRuns as jobs
use Rattle.command_runs.proofs.Puts as puts
use Rattle.command_runs.proofs.Alone.{somewhere}
use Rattle.command_runs.proofs.Stores.{put-old, stored-sure, mended-sure, robbed-old, damaged-sure, due-sure, robbed_due-old, to_put_own-sure}
use Rattle.command_runs.proofs.laws.jobs_run_alone.Goals as goal

pub returns : goal.returns
returns c = let one = c.opened_states.ensures in record {
  put = somewhere one put-old puts.stored.alone;
  failed_put = somewhere one put-old puts.failed.alone;
  cut_put = somewhere one put-old puts.cut.alone;
  unmade_put = somewhere one put-old puts.unmade.alone;
  drop = somewhere one stored-sure jobs.drop.alone;
  get = somewhere one mended-sure jobs.got-mended.alone;
  lost_get = somewhere one robbed-old jobs.got-lost.alone;
  audit = somewhere one damaged-sure jobs.audit.alone;
  repair = somewhere one due-sure jobs.repair.alone;
  lost_repair = somewhere one robbed_due-old jobs.repair-lost.alone;
  failed_repair = somewhere one due-sure jobs.repair-failed.alone;
  upgrade = somewhere one stored-sure jobs.upgrade.alone;
  own_put = somewhere one to_put_own-sure puts.own.alone;
}
