use Rattle.second_half_laws.proofs.Failed.{failures_rose}
use Rattle.second_half_laws.proofs.laws.failed_calls_are_counted.Goals as goal

pub returns : goal.returns
returns c = failures_rose
