use Rattle.server_code.proofs.Words.{◌≡◌, ◌<◌, ◌≤◌, ℕ, length, get_or, nim_add, value}
use Rattle.server_code.proofs.behind.add_values.Given as goal

abbrev pub invariant-loop-k : goal.invariant-loop-k
invariant-loop-k l = record {
  long : length l.kept ≡ length l.initial.kept;
  done : (k : ℕ) → k < l.k → get_or l.kept k 0 ≡ nim_add (get_or l.initial.kept k 0) (value l.work.rest k);
  left : (k : ℕ) → l.k ≤ k → get_or l.kept k 0 ≡ get_or l.initial.kept k 0;
}
