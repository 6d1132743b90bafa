use Rattle.provider_wire.proofs.Determined.{failed_counted}
use Rattle.provider_wire.proofs.laws.failed_answers_are_counted.Goals as goal

pub returns : goal.returns
returns c = failed_counted
