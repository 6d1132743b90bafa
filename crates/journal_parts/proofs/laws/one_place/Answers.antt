use Rattle.journal_parts.proofs.Texts.{one_place}
use Rattle.journal_parts.proofs.laws.one_place.Goals as goal

pub returns : goal.returns
returns c = one_place
