use Rattle.server_code.proofs.Words.{◌≡◌, ◌≤◌, ◌+◌, drop, differences}
use Rattle.server_code.proofs.correct.count_differences.Given as goal

abbrev pub invariant-loop-k : goal.invariant-loop-k
invariant-loop-k l = record {
  bound : l.count ≤ l.k;
  count : l.count + differences (drop l.k l.a) (drop l.k l.b) ≡ differences l.a l.b;
}
