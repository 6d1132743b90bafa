use Rattle.hail_poly.proofs.Words.{◌≡◌, ◌≤◌, take, length, trim}
use Rattle.hail_poly.proofs.read.used.Given as goal

abbrev pub invariant-loop-count : goal.invariant-loop-count
invariant-loop-count l =
    record {
      within : l.count ≤ length l.coefficients;
      same : trim (take l.count l.coefficients) ≡ trim l.coefficients;
    }

abbrev pub decreases-loop-count : goal.decreases-loop-count
decreases-loop-count l = l.count
