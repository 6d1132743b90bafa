use Rattle.hail_poly.proofs.Words.{◌≡◌, ◌≤◌, ◌+◌, drop, map, Some, agree, matches}
use Rattle.hail_poly.proofs.count.agreements.Given as goal

abbrev pub invariant-loop-k : goal.invariant-loop-k
invariant-loop-k l = record {
  bound : l.count ≤ l.k;
  sum : l.count + agree l.coefficients (drop l.k l.points) (drop l.k (map Some l.values))
      ≡ matches l.coefficients l.points l.values;
}
