use Rattle.column_codec.proofs.Words.{get_or, nim_mul, upto, others_product, part}
use Rattle.std.proofs.Common.{◌≡◌, ◌<◌, ℕ, length}
use Rattle.column_codec.proofs.weights.weights.Given as goal

-- the weights before this one are filled in, and there is room for all
abbrev pub invariant-loop-k : goal.invariant-loop-k
invariant-loop-k l = record {
  filled : (k : ℕ) → k < l.k → get_or l.weights k 0
      ≡ nim_mul (others_product l.x (upto l.l)) (part (upto l.l) l.x k);
  many : length l.weights ≡ 16;
}
