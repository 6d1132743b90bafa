use Rattle.effect_laws.proofs.Tested.{tested_on, tested_puts, tested_drops, tested_only}
use Rattle.effect_laws.proofs.transcripts.what_is_asked_is_tested.Goals as goal

pub returns : goal.returns
returns c = record { neither = tested_on; puts = tested_puts; drops = tested_drops; only = tested_only }
