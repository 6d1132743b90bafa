use Rattle.record_defs.proofs.OrderLaws.{ordered-files_of}
use Rattle.record_defs.proofs.laws.files_are_ordered.Goals as goal

pub returns : goal.returns
returns c = ordered-files_of
