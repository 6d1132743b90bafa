use Rattle.std.proofs.Common.{◌≡◌, ℕ, ◌+◌, ◌<◌, ◌≤◌, length, get_or}
use Rattle.hail_scrub.proofs.steps.add_each.Given as goal

abbrev pub invariant-loop-j : goal.invariant-loop-j
invariant-loop-j l = record {
  long : length l.sums ≡ length l.initial.sums;
  done : (k : ℕ) → k < l.j → get_or l.sums k 0 ≡ get_or l.initial.sums k 0 + get_or l.more k 0;
  rest : (k : ℕ) → l.j ≤ k → get_or l.sums k 0 ≡ get_or l.initial.sums k 0;
}
