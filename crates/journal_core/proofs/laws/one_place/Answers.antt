use Rattle.journal_core.proofs.Meanings.{one_place}
use Rattle.journal_core.proofs.laws.one_place.Goals as goal

pub returns : goal.returns
returns c = one_place
