use Rattle.std.proofs.Common.{◌≡◌, ◌-◌}
use Rattle.column_codec.proofs.Words.{range_with_len, others_product}
use Rattle.column_codec.proofs.weights.product_of_gaps.Given as goal

-- the points from this one on are factors
abbrev pub invariant-loop-p : goal.invariant-loop-p
invariant-loop-p l = l.product ≡ others_product l.x (range_with_len l.p (l.l - l.p))
