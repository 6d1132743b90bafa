use Rattle.hail_poly.proofs.Words.{◌≡◌, drop, value}
use Rattle.hail_poly.proofs.read.eval.Given as goal

abbrev pub invariant-loop-k : goal.invariant-loop-k
invariant-loop-k l = l.sum ≡ value (drop l.k l.coefficients) l.x
