use Rattle.hail_scrub.proofs.Words.{◌≡◌, ℕ, ◌+◌, ◌<◌, ◌≤◌, ◌==◌, length, get_or, if◌then◌else◌}
use Rattle.hail_scrub.proofs.steps.count_each.Given as goal

abbrev pub invariant-loop-j : goal.invariant-loop-j
invariant-loop-j l = record {
  long : length l.counts ≡ length l.initial.counts;
  done : (k : ℕ) → k < l.j →
      get_or l.counts k 0 ≡ get_or l.initial.counts k 0 + (if get_or l.more k 0 == 0 then 0 else 1);
  rest : (k : ℕ) → l.j ≤ k → get_or l.counts k 0 ≡ get_or l.initial.counts k 0;
}
