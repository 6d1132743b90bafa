use Rattle.std.proofs.Common.{◌≡◌, map}
use Rattle.column_codec.proofs.Words.{upto, weight_at}
use Rattle.column_codec.proofs.tables.tables.Given as goal

-- the tables before this one are made
abbrev pub invariant-loop-place : goal.invariant-loop-place
invariant-loop-place l = l.tables.items ≡ map (weight_at l.shape.l l.weights) (upto l.place)
