use Rattle.audit_verdict.proofs.RoundLaws.{right-not_counted}
use Rattle.audit_verdict.proofs.laws.right_answers_are_not_counted.Goals as goal

pub returns : goal.returns
returns c o bytes question heard old new j round many judges below is = right-not_counted o bytes question
    heard round.shape round.some_size round.size round.all_heard round.few old new j many judges below is
