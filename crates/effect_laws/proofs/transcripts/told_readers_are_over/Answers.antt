use Rattle.machine_defs.specs.Untouched.{Relies}
use Rattle.effect_laws.proofs.Over.{over}
use Rattle.effect_laws.proofs.transcripts.told_readers_are_over.Goals as goal

pub returns : goal.returns
returns c = over Relies
