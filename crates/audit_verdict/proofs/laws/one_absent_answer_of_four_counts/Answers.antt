use Rattle.audit_verdict.proofs.Worked.{few-wrong, judged-one, differs-once}
use Rattle.audit_verdict.proofs.laws.one_absent_answer_of_four_counts.Goals as goal

pub returns-clause-few : goal.returns-clause-few
returns-clause-few c = few-wrong

pub returns-clause-judged : goal.returns-clause-judged
returns-clause-judged c = judged-one

pub returns-clause-differs : goal.returns-clause-differs
returns-clause-differs c = differs-once
