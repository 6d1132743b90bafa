use Rattle.audit_verdict.proofs.RoundLaws.{absent-counted, differing-counted}
use Rattle.audit_verdict.proofs.laws.wrong_answers_are_counted.Goals as goal

pub returns-clause-absent : goal.returns-clause-absent
returns-clause-absent c o bytes question heard old new j round many judges below is =
    absent-counted o bytes question heard round.shape round.some_size round.size round.all_heard round.few old
    new j many judges below is

pub returns-clause-differing : goal.returns-clause-differing
returns-clause-differing c o bytes question heard held old new j round many judges below is once =
    differing-counted o bytes question heard round.shape round.some_size round.size round.all_heard round.few
    held old new j many judges below is once
