use Rattle.hail_poly.proofs.Words.{◌≡◌, ◌≤◌, take, trim, Reduces}
use Rattle.hail_poly.proofs.euclid.reduce.Given as goal

abbrev pub invariant-loop-n : goal.invariant-loop-n
invariant-loop-n l = record {
  held : l.n ≤ l.len;
  trimmed : take l.n l.r0 ≡ trim (take l.n l.r0);
  rows : Reduces (take l.len l.fn.r0) l.fn.f0 l.r1 l.f1 (take l.n l.r0) l.f0;
}

abbrev pub decreases-loop-n : goal.decreases-loop-n
decreases-loop-n l = l.n
