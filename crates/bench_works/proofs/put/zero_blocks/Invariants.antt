use Rattle.std.proofs.Common.{◌≡◌, All, length}
use Rattle.bench_works.proofs.put.zero_blocks.Given as goal

-- so many blocks have their size
abbrev pub invariant-loop : goal.invariant-loop
invariant-loop l = record {
  count : length l.blocks.items ≡ l.counter;
  sizes : All (λ block. length block ≡ l.file.profile.size) l.blocks.items;
}
