use Rattle.record_defs.proofs.Sizes.{length-spelling, length-text}
use Rattle.record_defs.proofs.laws.sizes.Goals as goal

pub returns-clause-record : goal.returns-clause-record
returns-clause-record c = length-spelling

pub returns-clause-text : goal.returns-clause-text
returns-clause-text c = length-text
