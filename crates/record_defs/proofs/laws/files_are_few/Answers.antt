use Rattle.record_defs.proofs.OrderLaws.{few-files_of}
use Rattle.record_defs.proofs.laws.files_are_few.Goals as goal

pub returns : goal.returns
returns c = few-files_of
