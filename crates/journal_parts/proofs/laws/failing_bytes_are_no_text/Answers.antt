use Rattle.journal_parts.proofs.Texts.{failing_no_text}
use Rattle.journal_parts.proofs.laws.failing_bytes_are_no_text.Goals as goal

pub returns : goal.returns
returns c = failing_no_text
