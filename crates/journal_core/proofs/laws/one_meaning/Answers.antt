use Rattle.journal_core.proofs.Meanings.{one_meaning}
use Rattle.journal_core.proofs.laws.one_meaning.Goals as goal

pub returns : goal.returns
returns c = one_meaning
