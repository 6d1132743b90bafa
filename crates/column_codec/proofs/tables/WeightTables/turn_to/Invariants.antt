use Rattle.std.proofs.Common.{◌≡◌, ◌-◌, ◌*◌, map, take, length}
use Rattle.column_codec.proofs.Words.{upto, weight_at}
use Rattle.column_codec.proofs.tables.WeightTables.turn_to.Given as goal

-- the tables before this one are made anew
abbrev pub invariant-loop-place : goal.invariant-loop-place
invariant-loop-place l = record {
  made : take l.place l.self-inside.items.items ≡ map (weight_at l.shape.l l.weights) (upto l.place);
  many : length l.self-inside.items.items ≡ (l.shape.n - l.shape.l) * (l.shape.l - 1);
}
