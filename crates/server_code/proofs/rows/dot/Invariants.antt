use Rattle.server_code.proofs.Words.{◌≡◌, drop, dot_of}
use Rattle.server_code.proofs.rows.dot.Given as goal

abbrev pub invariant-loop-k : goal.invariant-loop-k
invariant-loop-k l = l.sum ≡ dot_of (drop l.k l.coefficients) (drop l.k l.symbols)
