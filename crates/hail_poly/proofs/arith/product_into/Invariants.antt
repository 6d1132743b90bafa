use Rattle.hail_poly.proofs.Words.{◌≡◌, ℕ, take, nim_mul, value}
use Rattle.hail_poly.proofs.arith.product_into.Given as goal

abbrev pub invariant-loop-k : goal.invariant-loop-k
invariant-loop-k l = (x : ℕ) → value l.into x ≡ nim_mul (value (take l.k l.p) x) (value l.q x)
