use Rattle.server_code.proofs.Words.{◌≡◌, ◌<◌, ◌≤◌, ℕ, length, get_or, nim_add}
use Rattle.server_code.proofs.quarters.add_all.Given as goal

abbrev pub invariant-loop-k : goal.invariant-loop-k
invariant-loop-k l = record {
  long : length l.sum ≡ length l.initial.sum;
  done : (k : ℕ) → k < l.k → get_or l.sum k 0 ≡ nim_add (get_or l.initial.sum k 0) (get_or l.more k 0);
  left : (k : ℕ) → l.k ≤ k → get_or l.sum k 0 ≡ get_or l.initial.sum k 0;
}
