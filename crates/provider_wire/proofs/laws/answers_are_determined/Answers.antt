use Rattle.provider_wire.proofs.Determined.{determined}
use Rattle.provider_wire.proofs.laws.answers_are_determined.Goals as goal

pub returns : goal.returns
returns c = determined
