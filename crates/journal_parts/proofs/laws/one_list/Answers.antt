use Rattle.journal_parts.proofs.Texts.{one_list}
use Rattle.journal_parts.proofs.laws.one_list.Goals as goal

pub returns : goal.returns
returns c = one_list
