use Rattle.device_defs.proofs.TearLaws.{Torn-halved, Torn-marked}
use Rattle.device_defs.proofs.laws.tears.Goals as goal

pub returns-clause-halved : goal.returns-clause-halved
returns-clause-halved c = Torn-halved

pub returns-clause-marked : goal.returns-clause-marked
returns-clause-marked c = Torn-marked
