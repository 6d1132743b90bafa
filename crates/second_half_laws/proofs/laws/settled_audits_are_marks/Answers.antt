use Rattle.second_half_laws.proofs.InRuns.{calm_marked}
use Rattle.second_half_laws.proofs.laws.settled_audits_are_marks.Goals as goal

pub returns : goal.returns
returns c = calm_marked
