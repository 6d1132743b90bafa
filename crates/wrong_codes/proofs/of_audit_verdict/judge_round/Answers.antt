use Rattle.wrong_codes.proofs.of_audit_verdict.judge_round.Goals as goal

pub returns : goal.returns
returns c = record { judged = c.judge_round.ensures.judged }
