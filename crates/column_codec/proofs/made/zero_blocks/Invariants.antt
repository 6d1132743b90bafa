use Rattle.std.proofs.Common.{◌≡◌, ◌≤◌, length, All}
use Rattle.std.specs.Prelude.{vec_capacity}
use Rattle.column_codec.proofs.made.zero_blocks.Given as goal

abbrev pub invariant-loop : goal.invariant-loop
invariant-loop l = record {
  made : length l.blocks.items ≡ l.counter;
  sizes : All (λ block. length block ≡ l.size) l.blocks.items;
  room : l.count ≤ vec_capacity l.blocks;
}
