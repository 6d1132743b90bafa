use Rattle.journal_parts.proofs.Texts.{active_of}
use Rattle.journal_parts.proofs.laws.texts_are_active.Goals as goal

pub returns : goal.returns
returns c = active_of
