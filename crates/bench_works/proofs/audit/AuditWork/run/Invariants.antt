use Rattle.std.proofs.Common.{◌≡◌, ◌≤◌, ℕ, get_or}
use Rattle.bench_works.proofs.audit.AuditWork.run.Given as goal

-- no counter is above the number of the rounds so far
abbrev pub invariant-loop-round : goal.invariant-loop-round
invariant-loop-round l = record {
  n : l.counts.n ≡ l.self.file.shape.n;
  counts : (j : ℕ) → get_or l.counts.by j 0 ≤ l.round;
  undecided : l.undecided ≤ l.round;
  room : l.work.size ≡ l.initial.work.size;
}
