use Rattle.journal_core.proofs.Meanings.{bad_is_none}
use Rattle.journal_core.proofs.laws.bad_stands_for_none.Goals as goal

pub returns : goal.returns
returns c = bad_is_none
