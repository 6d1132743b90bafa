use Rattle.provider_wire.proofs.Progress.{no_memory}
use Rattle.provider_wire.proofs.server.serve.Goals as goal

pub returns-in-Err-clause-served : goal.returns-in-Err-clause-served
returns-in-Err-clause-served g c = no_memory _ _ _
