use Rattle.effect_laws.proofs.Jobs.{tells}
use Rattle.effect_laws.proofs.transcripts.transcripts_tell_jobs.Goals as goal

pub returns : goal.returns
returns c = tells
