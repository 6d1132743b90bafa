use Rattle.audit_verdict.proofs.RoundLaws.{decided}
use Rattle.audit_verdict.proofs.laws.rounds_with_few_wrong_answers_are_decided.Goals as goal

pub returns : goal.returns
returns c o bytes question heard old new round judges = decided o bytes question heard round.shape
    round.some_size round.size round.all_heard round.few old new judges
