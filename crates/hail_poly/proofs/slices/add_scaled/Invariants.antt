use Rattle.hail_poly.proofs.Words.{◌≡◌, drop, take, ◌++◌, plus, scale}
use Rattle.hail_poly.proofs.slices.add_scaled.Given as goal

abbrev pub invariant-loop-k : goal.invariant-loop-k
invariant-loop-k l = plus l.initial.into (scale l.c l.from)
    ≡ take l.k l.into ++ plus (drop l.k l.into) (scale l.c (drop l.k l.from))
