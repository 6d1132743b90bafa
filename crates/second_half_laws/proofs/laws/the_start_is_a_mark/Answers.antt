use Rattle.second_half_laws.proofs.InRuns.{start_marked}
use Rattle.second_half_laws.proofs.laws.the_start_is_a_mark.Goals as goal

pub returns : goal.returns
returns c = start_marked
