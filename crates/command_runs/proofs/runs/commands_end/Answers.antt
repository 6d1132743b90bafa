use Rattle.command_runs.proofs.JobRuns as jobs
use Rattle.command_runs.proofs.Puts as puts
use Rattle.command_runs.proofs.Alone as scrubs
use Rattle.command_runs.proofs.runs.commands_end.Goals as goal

pub returns : goal.returns
returns c = record {
  put = puts.stored.answers;
  failed_put = puts.failed.answers;
  cut_put = puts.cut.answers;
  torn_put = puts.torn.answers;
  unmade_put = puts.unmade.answers;
  other_put = puts.other.answers;
  hidden_put = puts.hidden.answers;
  hidden_get = jobs.got-hidden.answers;
  drop = jobs.drop.answers;
  cut_drop = jobs.drop-cut.answers;
  lost_get = jobs.got-lost.answers;
  lost_repair = jobs.repair-lost.answers;
  audit = jobs.audit.answers;
  cut_audit = jobs.audit-cut.answers;
  cut_repair = jobs.repair-cut.answers;
  repair = jobs.repair.answers;
  failed_repair = jobs.repair-failed.answers;
  get = jobs.got-mended.answers;
  scrub = scrubs.done.answers;
  swept = scrubs.swept-clean.answers;
  failed_scrub = scrubs.failed.answers;
  lost_scrub = scrubs.lost.answers;
  later_get = jobs.got-robbed.answers;
  upgrade = jobs.upgrade.answers;
  cut_upgrade = jobs.upgrade-cut.answers;
  own_put = puts.own.answers;
}
