use Rattle.epoch_runs.proofs.Missed.{moments, has-missed}
use Rattle.epoch_runs.specs.Missed.{missing}
use Rattle.epoch_runs.proofs.runs.audits_miss_what_scrubs_mend.Goals as goal

pub returns : goal.returns
returns c = (
  moments,
  has-missed,
  c.finished_scrubs_are_marks.ensures.half 8 missing moments has-missed.clean has-missed.tell has-missed.run
      has-missed.calm,
)
