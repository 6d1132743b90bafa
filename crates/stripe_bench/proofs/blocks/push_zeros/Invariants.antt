use Rattle.std.proofs.Common.{◌≡◌, ◌+◌, ◌-◌, ◌≤◌, ◌++◌, replicate, vec_len, vec_capacity}
use Rattle.stripe_bench.proofs.blocks.push_zeros.Given as goal

abbrev pub invariant-loop : goal.invariant-loop
invariant-loop l = record {
  zeros : l.symbols.items ≡ l.initial.symbols.items ++ replicate l.counter 0;
  room : vec_len l.symbols + (l.count - l.counter) ≤ vec_capacity l.symbols;
  grown : vec_capacity l.initial.symbols ≤ vec_capacity l.symbols;
}
