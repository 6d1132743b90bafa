use Rattle.answer_laws.proofs.Judging.{bytes-judged, bytes-judged-by-init}
use Rattle.answer_laws.proofs.laws.any_bytes_are_judged.Goals as goal

pub returns-clause-start : goal.returns-clause-start
returns-clause-start c = bytes-judged

pub returns-clause-init : goal.returns-clause-init
returns-clause-init c = bytes-judged-by-init
