use Rattle.hail_top.proofs.AnswerLaws.{answer-complete}
use Rattle.hail_top.proofs.laws.row_answer_is_complete.Goals as goal

pub returns : goal.returns
returns c = answer-complete
