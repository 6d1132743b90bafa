use Rattle.std.proofs.Common.{arith}
use Rattle.device_defs.proofs.ImageLaws.{listed, ascends_from}
use Rattle.device_defs.proofs.laws.offsets.Goals as goal

pub returns-clause-ascend : goal.returns-clause-ascend
returns-clause-ascend c = λ cells. ascends_from cells 0 0 (omega arith)

pub returns-clause-listed : goal.returns-clause-listed
returns-clause-listed c = listed
