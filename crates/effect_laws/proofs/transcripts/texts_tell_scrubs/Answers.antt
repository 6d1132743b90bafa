use Rattle.effect_laws.proofs.Scrubs.{whole}
use Rattle.effect_laws.proofs.transcripts.texts_tell_scrubs.Goals as goal

pub returns : goal.returns
returns c = whole
