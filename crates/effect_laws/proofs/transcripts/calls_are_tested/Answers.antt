use Rattle.effect_laws.proofs.Asked.{tested_calls}
use Rattle.effect_laws.proofs.transcripts.calls_are_tested.Goals as goal

pub returns : goal.returns
returns c = tested_calls
