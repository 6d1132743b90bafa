use Rattle.journal_pack.proofs.Packs.{keeps-journal}
use Rattle.journal_pack.proofs.laws.packs_are_atomic.Goals as goal

pub returns : goal.returns
returns c = keeps-journal
