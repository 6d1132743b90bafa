use Rattle.epoch_runs.proofs.Missed.{sweeping, is-sweeping}
use Rattle.epoch_runs.specs.Missed.{missing}
use Rattle.epoch_runs.proofs.runs.a_scrub_is_under_way.Goals as goal

pub returns : goal.returns
returns c = (let S = is-sweeping in (
  sweeping,
  S.0,
  S.1,
  c.running_scrubs_have_swept.ensures 8 missing sweeping S.0 S.1.clean S.1.tell S.1.run S.1.calm S.1.runs,
))
