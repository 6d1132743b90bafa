use Rattle.record_defs.proofs.AreaLaws.{text-active, text_size-end}
use Rattle.record_defs.proofs.laws.texts_stand.Goals as goal

pub returns-clause-active : goal.returns-clause-active
returns-clause-active c = text-active

pub returns-clause-end : goal.returns-clause-end
returns-clause-end c = text_size-end
