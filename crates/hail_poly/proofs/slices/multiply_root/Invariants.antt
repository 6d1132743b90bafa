use Rattle.hail_poly.proofs.Words.{◌≡◌, drop, take, ◌++◌, root_times}
use Rattle.hail_poly.proofs.slices.multiply_root.Given as goal

abbrev pub invariant-loop-k : goal.invariant-loop-k
invariant-loop-k l = root_times l.r 0 l.initial.items
    ≡ take l.k l.items ++ root_times l.r l.carry (drop l.k l.items)
