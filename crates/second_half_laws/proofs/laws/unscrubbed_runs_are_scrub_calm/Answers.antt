use Rattle.second_half_laws.proofs.Finished.{unscrubbed}
use Rattle.second_half_laws.proofs.laws.unscrubbed_runs_are_scrub_calm.Goals as goal

pub returns : goal.returns
returns c = unscrubbed
