use Rattle.std.proofs.Common.{◌≡◌, ◌<◌, ◌≤◌, ℕ, None, get_or}
use Rattle.audit_verdict.proofs.Places.{next_count}
use Rattle.audit_verdict.proofs.counting.count_wrong.Given as goal

-- the providers before this one are counted, and the others not yet
abbrev pub invariant-loop-j : goal.invariant-loop-j
invariant-loop-j l = record {
  done : (k : ℕ) → k < l.j →
      get_or l.counts k 0 ≡ next_count l.work.rest (get_or l.points k 0) (get_or l.answers k None)
      (get_or l.initial.counts k 0);
  rest : (k : ℕ) → l.j ≤ k → get_or l.counts k 0 ≡ get_or l.initial.counts k 0;
}
