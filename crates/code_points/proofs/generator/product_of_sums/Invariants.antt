use Rattle.code_points.proofs.Words.{◌≡◌, ◌≤◌, ◌-◌, range_with_len, value, vanish}
use Rattle.code_points.proofs.generator.product_of_sums.Given as goal

abbrev pub invariant-loop-place : goal.invariant-loop-place
invariant-loop-place l = record {
  from : l.start ≤ l.place;
  product : l.product ≡ value (vanish (range_with_len l.place (l.end - l.place))) l.x;
}
