use Rattle.server_code.proofs.Words.{◌≡◌, ◌<◌, ◌+◌, ℕ, length, get_or, nim_add, nim_mul, value, vanish, upto}
use Rattle.server_code.proofs.behind.fill_shares.Given as goal

abbrev pub invariant-loop-k : goal.invariant-loop-k
invariant-loop-k l = record {
  long : length l.out ≡ length l.initial.out;
  done : (k : ℕ) → k < l.k →
      nim_mul (get_or l.out k 0) (value (vanish (upto l.keep)) (l.keep + k))
      ≡ nim_add (get_or l.block (l.keep + k) 0) (get_or l.word (l.keep + k) 0);
}
