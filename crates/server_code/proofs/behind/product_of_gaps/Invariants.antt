use Rattle.server_code.proofs.Words.{◌≡◌, ◌-◌, range_with_len, value, vanish}
use Rattle.server_code.proofs.behind.product_of_gaps.Given as goal

abbrev pub invariant-loop-place : goal.invariant-loop-place
invariant-loop-place l = l.product ≡ value (vanish (range_with_len l.place (l.keep - l.place))) l.x
