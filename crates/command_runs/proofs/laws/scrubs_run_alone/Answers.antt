use Rattle.command_runs.proofs.Alone as scrubs
use Rattle.command_runs.proofs.Alone.{scrubs-somewhere}
use Rattle.command_runs.proofs.Stores.{two_damaged-sure, robbed-old}
use Rattle.command_runs.proofs.laws.scrubs_run_alone.Goals as goal

pub returns : goal.returns
returns c = record {
  done = scrubs-somewhere c.opened_states.ensures two_damaged-sure scrubs.done.alone;
  failed = scrubs-somewhere c.opened_states.ensures two_damaged-sure scrubs.failed.alone;
  lost = scrubs-somewhere c.opened_states.ensures robbed-old scrubs.lost.alone;
}
