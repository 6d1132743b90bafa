use Rattle.std.proofs.Common.{◌≡◌, length}
use Rattle.column_codec.specs.ObjectKeys.{HasWeights}
use Rattle.column_codec.proofs.keys.all_weights.Given as goal

-- the points so far have their weights
abbrev pub invariant-loop-j : goal.invariant-loop-j
invariant-loop-j l = record { has : HasWeights l.j l.shape.l l.points l.all; many : length l.all ≡ 16 }
