use Rattle.std.proofs.Common.{◌≡◌, ◌+◌, take, map}
use Rattle.column_codec.proofs.Words.{upto, symbol_of}
use Rattle.column_codec.proofs.gather.stripe_symbols_into.Given as goal

-- the places before this one are filled
abbrev pub invariant-loop-i : goal.invariant-loop-i
invariant-loop-i l = take l.i l.out ≡ map (λ i. symbol_of l.bytes (l.first + i)) (upto l.i)
