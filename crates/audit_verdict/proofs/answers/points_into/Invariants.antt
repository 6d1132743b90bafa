use Rattle.audit_verdict.proofs.Words.{get_or, point, shaped_object}
use Rattle.std.proofs.Common.{◌≡◌, ◌<◌, ℕ}
use Rattle.audit_verdict.proofs.answers.points_into.Given as goal

-- the points before this one are filled in
abbrev pub invariant-loop-j : goal.invariant-loop-j
invariant-loop-j l = (k : ℕ) → k < l.j → get_or l.out k 0 ≡ point (shaped_object l.master.0 l.file) k
