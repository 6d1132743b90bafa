use Rattle.std.proofs.Common.{◌≡◌, take, replicate}
use Rattle.column_codec.proofs.opening.clear.Given as goal

-- the symbols before this one are zero
abbrev pub invariant-loop-symbol : goal.invariant-loop-symbol
invariant-loop-symbol l = take l.symbol-index l.out ≡ replicate l.symbol-index 0
