use Rattle.audit_verdict.proofs.Words.{get_or, bare_answer, shaped_object, asked}
use Rattle.std.proofs.Common.{◌≡◌, ◌<◌, ℕ, None}
use Rattle.audit_verdict.proofs.answers.bare_answers_into.Given as goal

-- the answers before this one are filled in
abbrev pub invariant-loop-j : goal.invariant-loop-j
invariant-loop-j l = (k : ℕ) → k < l.j → get_or l.out k None
    ≡ bare_answer (shaped_object l.master.0 l.file) (asked l.drawn.challenge) k (get_or l.heard k None)
