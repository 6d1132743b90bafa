use Rattle.journal_core.proofs.AreaStands.{firm-image}
use Rattle.journal_core.proofs.laws.firm_texts_stand.Goals as goal

pub returns : goal.returns
returns c = firm-image
